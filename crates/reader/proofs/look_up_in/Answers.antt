-- `look_up_in` meets its contract.
use Rattle.seek.proofs.Laws.{spot_body, spot_area, spot_room, spot_front}
use Rattle.reader.proofs.Found.{look_up_twelve, look_up_absent, look_up_other, look_up_same}
use Rattle.reader.proofs.look_up_in.Goals as goal

pub returns-then-not-headword_ok : goal.returns-then-not-headword_ok
returns-then-not-headword_ok c = search look_up_twelve

pub slice_bounds-word-end : goal.slice_bounds-word-end
slice_bounds-word-end c = search spot_room

pub slice_bounds-is_equal-end : goal.slice_bounds-is_equal-end
slice_bounds-is_equal-end c = search spot_front

pub give_text-requires : goal.give_text-requires
give_text-requires c = (search spot_body, search spot_area)

pub returns-in_default-2 : goal.returns-in_default-2
returns-in_default-2 c i o =
    look_up_absent _ _ _ _ c.requires.accepted_image _ c.headword_ok.ensures (search) _ _ _ c.areas.ensures.runs_told _ _ c.seek-found.ensures.as_read i o (search)

pub returns-in-Some : goal.returns-in-Some
returns-in-Some c i o =
    look_up_same _ _ _ _ c.requires.accepted_image _ c.headword_ok.ensures (search) _ _ _ c.areas.ensures.runs_told _ _ c.seek-found.ensures.as_read i o
    _ c.in-Some.is _ c.is_equal.ensures (search) _ _ c.give_text.ensures

pub returns-in_default : goal.returns-in_default
returns-in_default c i o =
    look_up_other _ _ _ _ c.requires.accepted_image _ c.headword_ok.ensures (search) _ _ _ c.areas.ensures.runs_told _ _ c.seek-found.ensures.as_read i o
    _ c.in-Some.is _ c.is_equal.ensures (search)
