-- The headword is among all entries exactly when it is among those of the run concerned.
use Prim.Native.Nat.{ℕ}
use mathlib.Core.Path.{◌≡◌, sym, ap, subst, ◌∙◌}
use mathlib.Core.Bool.{Bool, true}
use mathlib.Core.List.{List, [], ◌++◌, append-nil}
use Rattle.spec.specs.Outcome.{ok}
use Rattle.spec.specs.Lists.{filter, first, All}
use Rattle.spec.specs.Bytes.{bytes_equal}
use Rattle.spec.specs.Order.{IsOrder, below_of, HeadwordOrder}
use Rattle.spec.specs.Header.{Format, format_of}
use Rattle.spec.specs.Entry.{Entry}
use Rattle.spec.specs.Check as Check
use Rattle.spec.specs.Check.{Image, image_from, all_entries, entries_of}
use Rattle.spec.specs.SortedList as SortedList
use Rattle.spec.specs.SortedList.{lookup}
use Rattle.spec.specs.Place.{target_run}
use Rattle.spec.specs.Claim.{is_there}
use Rattle.spec.proofs.ListsLaws.{all_map, filter_append, filter_nothing}
use Rattle.spec.proofs.OrderLaws.{order_of}
use Rattle.spec.proofs.OutcomeLaws.{same_value}
use Rattle.spec.proofs.SearchLaws.{other, other_way}
use Rattle.spec.proofs.TargetLaws.{target_concerned}
use Rattle.spec.proofs.ChangeLaws.{Sound, image_sound}
use Rattle.header.specs.Form.{layout_named, format_by, index_part, data_part}
use Rattle.inspect.specs.declared.Overview.{Overview}
use Rattle.inspect.specs.Overview.{AcceptedImage}
use Rattle.inspect.proofs.Accepted.{accepted_format}
use Rattle.target.specs.declared.Target.{Target}
use Rattle.target.specs.Told.{entries_part, TargetTold}
use Rattle.parts.specs.Merge.{entries_left}
use Rattle.change.proofs.Laws.{entries_are}

-- the entry with a headword, sought between entries below it and entries above it
lookup_between : (below : HeadwordOrder) (order : IsOrder below) (h : List ℕ) (before es after : List Entry)
    → All (λ e. below e.headword h ≡ true) before → All (λ e. below h e.headword ≡ true) after → lookup h (before ++ es ++ after) ≡ lookup h es
unfolding SortedList.lookup SortedList.has_headword
lookup_between below order h before es after l u =
    let f : Entry → Bool = λ e. bytes_equal e.headword h in
    let p : filter f before ≡ [] = filter_nothing f before (all_map _ _ (λ e q. other below order e.headword h q) before l) in
    let q : filter f after ≡ [] = filter_nothing f after (all_map _ _ (λ e q. other_way below order h e.headword q) after u) in
    ap first (filter_append f (before ++ es) after ∙ rw (filter_append f before es, p, q, append-nil))

-- in an image: the entries of the run concerned, as code reads them, tell it
pub whole_found : (o : List ℕ) (x : Overview) (a : AcceptedImage o x) (e : ℕ) (h : List ℕ) (t : Target)
    → TargetTold x.form.width x.form.order (index_part x.form o x.n) (data_part x.form o x.n) e h a.image.runs t
    → (i : Image) → image_from o ≡ ok i
    → is_there (lookup h (entries_left (below_of x.form.order) [] (entries_part (data_part x.form o x.n) t.block t.size))) ≡ is_there (lookup h (entries_of i))
unfolding Check.image_from Check.entries_of
whole_found o x a e h t told i is =
    let j : a.image ≡ i = same_value a.image i (sym a.is ∙ is) in
    let below : HeadwordOrder = below_of x.form.order in
    let F : Format = format_by (layout_named o) x.form in
    let ascend = (subst (λ (G : Format). Sound G o a.image) (accepted_format o x a) (image_sound (format_of o) o a.image a.is)).ascend in
    let k = target_concerned below (order_of x.form.order) h a.image.runs ascend in
    let c = target_run below h a.image.runs in
    let y : lookup h (all_entries a.image.runs) ≡ lookup h c.entries
    = ap (lookup h) k.entries ∙ lookup_between below (order_of x.form.order) h (all_entries c.before) c.entries (all_entries c.after) k.lower k.upper in
    ap (λ (es : List Entry). is_there (lookup h es)) (entries_are x.form.width x.form.order (index_part x.form o x.n) (data_part x.form o x.n) e h a.image.runs t told)
    ∙ ap is_there (sym y) ∙ ap (λ (z : Image). is_there (lookup h (all_entries z.runs))) j
