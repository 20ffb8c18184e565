-- What the walk over a run's entries shows, in the terms of the code.
use Prim.Native.Nat.{ℕ, suc, ◌+◌, ◌-◌, ◌*◌, ◌<◌, ◌≤◌}
use mathlib.Core.Path.{◌≡◌, refl, sym, ap, ◌∙◌}
use mathlib.Core.Bool.{true}
use mathlib.Core.List.{List, [], ◌∷◌, ◌++◌}
use mathlib.Core.Option.{some}
use native.Mathlib.Omega.{arith}
use lib.ListN.{length, get_or, take, drop, length-append}
use lib.Seq.{length-take-le}
use Rattle.spec.specs.Order.{HeadwordOrder}
use Rattle.spec.specs.Outcome.{refused, ok}
use Rattle.spec.specs.Bytes as BytesSpec
use Rattle.spec.specs.Bytes.{write, bytes_at, no_zero}
use Rattle.spec.specs.Lists as ListsSpec
use Rattle.spec.specs.Entry.{Entry, attribute, text}
use Rattle.spec.specs.Run.{Run, read_entry, entries_from}
use Rattle.spec.specs.Listing as ListingSpec
use Rattle.spec.specs.Listing.{entry_line, entry_lines}
use Rattle.spec.proofs.ReadLaws.{entries_ended, entries_more}
use Rattle.spec.proofs.PartLaws.{length_bytes_at}
use Rattle.spec.specs.Answers.{number_of}
use Rattle.spec.specs.declared.Refusal.{Refusal}
use Rattle.spec.proofs.OutcomeLaws.{ok_not_refused}
use Rattle.std.specs.Prelude as std
use Rattle.std.specs.Prelude.{Ok, Err, Some, None}
use Rattle.runs.specs.Step.{Step, step_entry, Inside}
use Rattle.runs.specs.declared.EntryPlace.{EntryPlace}
use Rattle.runs.proofs.Laws.{told_broken, told_end, told_entry, told_no_zero, attribute_in, text_in}
use Rattle.listing.specs.Lines as LinesSpec
use Rattle.listing.specs.Lines.{fields_line, RunPrinted}
use Rattle.listing.specs.declared.Fields.{Fields}
use Rattle.spec.proofs.WriteLaws.{write_none, write_behind}
use Rattle.listing.proofs.Lines.{fields_length}

-- the numbers of the line of an entry of the run of n blocks at b
abbrev line_numbers : ℕ → ℕ → ℕ → ℕ → ℕ → Fields
line_numbers k b n a t = record { ordinal = k; block = b; blocks = n; attribute = a; text = t }

-- an entry's line by its numbers
fields_entry : (k : ℕ) (r : Run) (e : Entry) → entry_line k r e ≡ fields_line (line_numbers k r.block r.size (attribute e) (length (text e))) e.headword
unfolding ListingSpec.entry_line LinesSpec.fields_line LinesSpec.entry_numbers
fields_entry k r e = refl

-- the lines of entries by the first of them
entry_lines_cons : (k : ℕ) (r : Run) (e : Entry) (es : List Entry) → entry_lines k r (e ∷ es) ≡ entry_line k r e ++ entry_lines (suc k) r es
unfolding ListingSpec.entry_lines
entry_lines_cons k r e es = refl

-- no entry, no line
entry_lines_none : (k : ℕ) (r : Run) → entry_lines k r [] ≡ []
unfolding ListingSpec.entry_lines
entry_lines_none k r = refl

-- the entries from `pos` on: their lines, stored from `at` on in what stands there now, are all lines of the run
pub record Coming (below : HeadwordOrder) (run word : List ℕ) (len pos : ℕ) (r : Run) (out₀ out : List ℕ) (start at k ordinal : ℕ) : Type 0 where
  pub fuel : ℕ
  pub room : length run ≤ pos + fuel
  pub entries : List Entry
  pub read : entries_from below (suc fuel) (take len word) (drop pos run) ≡ ok entries
  pub lines : write at (entry_lines ordinal r entries) out ≡ write start (entry_lines k r r.entries) out₀
  pub place : at + length (entry_lines ordinal r entries) ≡ start + length (entry_lines k r r.entries)
  pub count : ordinal + length entries ≡ k + length r.entries

module _ (below : HeadwordOrder) (run word : List ℕ) (len pos : ℕ) (r : Run) (out₀ out : List ℕ) (start at k ordinal : ℕ) (v : Coming below run word len pos r out₀ out start at k ordinal) (st : Step)
    (word' : List ℕ) (step : step_entry run word' st ≡ read_entry below (take len word) (drop pos run)) where
  -- a run that is read has no fault
  coming_fault : (f : Refusal) → st ≡ Err f → ⊥
  unfolding entries_from
  coming_fault f q =
      let broken : read_entry below (take len word) (drop pos run) ≡ refused (number_of f) = told_broken below (take len word) (drop pos run) run word' st step f q in
      ok_not_refused v.entries (number_of f) (sym v.read ∙ rw broken)

  -- where it ends, all lines are stored
  coming_end : st ≡ Ok None → (out ≡ write start (entry_lines k r r.entries) out₀) × (at ≡ start + length (entry_lines k r r.entries)) × (ordinal ≡ k + length r.entries)
  coming_end q =
      let e : v.entries ≡ [] = entries_ended below v.fuel (take len word) (drop pos run) v.entries v.read (told_end below (take len word) (drop pos run) run word' st step q) in
      let l : entry_lines ordinal r v.entries ≡ [] = ap (entry_lines ordinal r) e ∙ entry_lines_none ordinal r in
      (sym (write_none out at) ∙ (rw l at v.lines), omega (arith, v.place, ap (λ (x : List ℕ). length x) l), omega (arith, v.count, ap (λ (x : List Entry). length x) e))

  module _ (p : EntryPlace) (q : st ≡ Ok (Some p)) (body : p.zero + 2 ≤ p.next) (within : p.next ≤ length run) (past : pos < p.next) (at' : ℕ) (out' : List ℕ) (fits : at ≤ length out)
      (stored : out' ≡ write at (fields_line (line_numbers ordinal r.block r.size (get_or run (p.zero + 1) 0) (p.next - (p.zero + 2))) (take p.length word')) out)
      (ends : at' ≡ at + 30 + length (take p.length word')) where
    -- the entry that was found
    found : Entry
    found = record { headword = take p.length word'; body = bytes_at (p.zero + 1) (p.next - (p.zero + 1)) run }

    -- so long is its text
    text_size : length (text found) ≡ p.next - (p.zero + 2)
    unfolding found
    text_size = ap (λ (x : List ℕ). length x) (text_in run (take p.length word') p.zero p.next body within) ∙ length_bytes_at run (p.zero + 2) (p.next - (p.zero + 2)) (omega arith)

    -- its line
    its_line : entry_line ordinal r found ≡ fields_line (line_numbers ordinal r.block r.size (get_or run (p.zero + 1) 0) (p.next - (p.zero + 2))) (take p.length word')
    unfolding found
    its_line = fields_entry ordinal r found ∙ rw (attribute_in run (take p.length word') p.zero p.next body within, text_size)

    -- one line more is stored
    coming_next : Coming below run word' p.length p.next r out₀ out' start at' k (ordinal + 1)
    unfolding found
    coming_next =
        let told : read_entry below (take len word) (drop pos run) ≡ ok (some (found, drop p.next run)) = told_entry below (take len word) (drop pos run) run word' st step p q in
        let (ds, u, w) = entries_more below v.fuel (take len word) (drop pos run) v.entries v.read found (drop p.next run) told in
        let x : List ℕ = fields_line (line_numbers ordinal r.block r.size (get_or run (p.zero + 1) 0) (p.next - (p.zero + 2))) (take p.length word') in
        let lx : length x ≡ 30 + length (take p.length word') = fields_length (line_numbers ordinal r.block r.size (get_or run (p.zero + 1) 0) (p.next - (p.zero + 2))) (take p.length word') in
        let one : ordinal + 1 ≡ suc ordinal = omega arith in
        let y : List ℕ = entry_lines (ordinal + 1) r ds in
        let all : entry_lines ordinal r v.entries ≡ x ++ y = ap (entry_lines ordinal r) w ∙ entry_lines_cons ordinal r found ds ∙ rw (its_line, one) in
        let place' : at + length x ≡ at' = omega arith in
        let j : suc (v.fuel - 1) ≡ v.fuel = omega (arith, v.room) in
        record {
          fuel = v.fuel - 1;
          room = omega (arith, v.room);
          entries = ds;
          read = rw j u;
          lines = ap (write at' y) stored ∙ ap (λ (i : ℕ). write i y (write at x out)) (sym place') ∙ write_behind out x y at fits ∙ ap (λ (l : List ℕ). write at l out) (sym all) ∙ v.lines;
          place = omega (arith, v.place, ap (λ (l : List ℕ). length l) all, length-append x y);
          count = omega (arith, v.count, ap (λ (l : List Entry). length l) w);
        }

-- the loop over the entries of a run of n blocks at b
pub record Printing (below : HeadwordOrder) (run word : List ℕ) (len pos b n : ℕ) (out₀ out : List ℕ) (start at k ordinal : ℕ) : Type 0 where
  pub inside : pos ≤ length run
  pub buffer : length word ≡ 256
  pub short : len ≤ 248
  pub clean : no_zero (take len word) ≡ true
  pub kept : length out ≡ length out₀
  pub bound : at ≤ start + 56 * pos
  pub few : ordinal ≤ at
  pub coming : (r : Run) → r.block ≡ b → r.size ≡ n → entries_from below (suc (length run)) [] (drop 2 run) ≡ ok r.entries → Coming below run word len pos r out₀ out start at k ordinal

-- no line is stored
pub printing_start : (below : HeadwordOrder) (run word : List ℕ) (b n : ℕ) (out : List ℕ) (start k : ℕ) → 2 ≤ length run → length word ≡ 256 → k ≤ start
    → Printing below run word 0 2 b n out out start start k k
unfolding BytesSpec.no_zero ListsSpec.all
printing_start below run word b n out start k p l q =
    record {
      inside = p;
      buffer = l;
      short = omega arith;
      clean = refl;
      kept = refl;
      bound = omega arith;
      few = q;
      coming = λ r i j h. record { fuel = length run; room = omega arith; entries = r.entries; read = h; lines = refl; place = refl; count = refl };
    }

module _ {below : HeadwordOrder} {run word : List ℕ} {len pos b n : ℕ} {out₀ out : List ℕ} {start at k ordinal : ℕ} (v : Printing below run word len pos b n out₀ out start at k ordinal) (st : Step)
    (word' : List ℕ) (step : step_entry run word' st ≡ read_entry below (take len word) (drop pos run)) where
  -- a run with a fault is none
  pub printing_broken : (f : Refusal) → st ≡ Err f → RunPrinted below b n run k start out₀ out (record { at = at; next = ordinal })
  printing_broken f q r i j h = absurd (coming_fault below run word len pos r out₀ out start at k ordinal (v.coming r i j h) st word' step f q)

  -- all lines are stored
  pub printing_end : (o : std.Option EntryPlace) → st ≡ Ok o → o ≡ None → RunPrinted below b n run k start out₀ out (record { at = at; next = ordinal })
  printing_end o q none r i j h = coming_end below run word len pos r out₀ out start at k ordinal (v.coming r i j h) st word' step (q ∙ ap Ok none)

  module _ (o : std.Option EntryPlace) (read : st ≡ Ok o) (p : EntryPlace) (some : o ≡ Some p) (places : Inside pos run st) where
    -- an entry was found
    q : st ≡ Ok (Some p)
    q = read ∙ ap Ok some

    -- where it stands
    told : (pos + 3 ≤ p.zero) × (p.zero + 2 ≤ p.next) × (p.next ≤ length run) × (p.next ≤ p.zero + 3002) × (1 ≤ p.length) × (p.length ≤ 248)
    told = places p q

    module _ (same : length word' ≡ length word) where
      -- the headword fits its buffer
      fits : p.length ≤ length word'
      fits = omega (arith, told.5, v.buffer)

      -- and is so long
      long : p.length ≡ length (take p.length word')
      long = sym (length-take-le p.length word' fits)

      -- one line more
      pub printing_next : start + 56 * length run ≤ length out₀ → (a : ℕ) → a ≡ get_or run (p.zero + 1) 0 → (at' : ℕ) (out' : List ℕ)
          → at' ≡ at + 30 + length (take p.length word') → out' ≡ write at (fields_line (line_numbers ordinal b n a (p.next - (p.zero + 2))) (take p.length word')) out
          → length out' ≡ length out → Printing below run word' p.length p.next b n out₀ out' start at' k (ordinal + 1)
      printing_next roomy a told_attribute at' out' ends stored same' =
          record {
            inside = told.2;
            buffer = same ∙ v.buffer;
            short = told.5;
            clean = told_no_zero below (take len word) (drop pos run) run word' st step p q;
            kept = same' ∙ v.kept;
            bound = omega (arith, long, told.5, told.0, told.1, v.bound);
            few = omega (arith, v.few);
            coming =
                λ r i j h. coming_next below run word len pos r out₀ out start at k ordinal (v.coming r i j h) st word' step p q
                told.1 told.2 (omega (arith, told.0, told.1)) at' out' (omega (arith, v.bound, v.inside, v.kept)) (rw (i, j, ← told_attribute) stored) ends;
          }
