-- `walk_in` meets its contract.
use Rattle.seek.proofs.Laws.{spot_body, spot_area, spot_room, spot_front}
use Rattle.reader.proofs.Found.{walk_twelve, walk_absent, walk_found}
use Rattle.reader.proofs.walk_in.Goals as goal

pub returns-then-not-start_ok : goal.returns-then-not-start_ok
returns-then-not-start_ok c = search walk_twelve

pub slice_bounds-word-end : goal.slice_bounds-word-end
slice_bounds-word-end c = search spot_room

pub slice_bounds-give_entry-end : goal.slice_bounds-give_entry-end
slice_bounds-give_entry-end c = search spot_front

pub give_entry-requires : goal.give_entry-requires
give_entry-requires c = (search spot_body, search spot_area)

pub returns-in_default : goal.returns-in_default
returns-in_default c =
    walk_absent _ _ _ _ _ c.requires.accepted_image _ _ c.start_ok.ensures (search) _ _ _ c.areas.ensures.runs_told _ _ c.seek-found.ensures.as_read (search)

pub returns : goal.returns
returns c =
    walk_found _ _ _ _ _ c.requires.accepted_image _ _ c.start_ok.ensures (search) _ _ _ c.areas.ensures.runs_told _ _ c.seek-found.ensures.as_read
    _ c.in-Some.is _ _ _ c.give_entry.ensures
