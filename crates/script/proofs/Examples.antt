-- Scripts and their calls.
use Prim.Native.Nat.{ℕ}
use mathlib.Core.Path.{◌≡◌, refl}
use mathlib.Core.Bool.{Bool, true, false, ◌&&◌}
use mathlib.Core.List.{List, [], ◌∷◌, ◌++◌}
use lib.ListN.{length, replicate}
use lib.Dec.{T}
use Rattle.spec.specs.Lists.{open_lists}
use Rattle.spec.specs.Bytes as Bytes
use Rattle.spec.specs.Bytes.{zeros, bytes_equal, open_bytes}
use Rattle.spec.specs.Order.{open_order}
use Rattle.spec.specs.Pairs.{open_pairs}
use Rattle.spec.specs.Header.{open_header}
use Rattle.spec.specs.Entry.{open_entry}
use Rattle.spec.specs.Run.{open_run}
use Rattle.spec.specs.Index.{open_index}
use Rattle.spec.specs.Blocks.{open_blocks}
use Rattle.spec.specs.Check.{open_check}
use Rattle.spec.specs.SortedList.{open_sorted_list}
use Rattle.spec.specs.Place.{open_place}
use Rattle.spec.specs.Calls.{create, open_calls}
use Rattle.spec.specs.Claim.{look_up_call, walk_call, insert_call, delete_call, optimise_call, open_claim}
use Rattle.script.specs.Script.{kinds, call_of, front_call, calls_from, calls_of, played, open_script}

-- a call of each kind
each_kind : calls_of 512 (3 ∷ 2 ∷ 1 ∷ 0 ∷ 128 ∷ 97 ∷ 98 ∷ 120 ∷ 0 ∷ 1 ∷ 0 ∷ 0 ∷ 0 ∷ 97 ∷ 1 ∷ 0 ∷ 0 ∷ 0 ∷ 0 ∷ 2 ∷ 1 ∷ 0 ∷ 0 ∷ 0 ∷ 98 ∷ 4 ∷ 1 ∷ 0 ∷ 0 ∷ 0 ∷ 97 ∷ 5 ∷ 0 ∷ 0 ∷ 0 ∷ 0 ∷ [])
    ≡ insert_call (zeros 512) (97 ∷ 98 ∷ []) 128 (120 ∷ [])
    ∷ look_up_call (97 ∷ []) (zeros 3000)
    ∷ walk_call false [] (zeros 248) (zeros 3000)
    ∷ walk_call true (98 ∷ []) (zeros 248) (zeros 3000)
    ∷ delete_call (zeros 512) (97 ∷ [])
    ∷ optimise_call (zeros 512)
    ∷ []
unfolding Bytes.from_little_endian Bytes.bytes_at kinds call_of front_call calls_from calls_of
each_kind = refl

-- another kind ends the script
ends_at_kind : calls_of 512 (5 ∷ 0 ∷ 0 ∷ 0 ∷ 0 ∷ 6 ∷ 0 ∷ 0 ∷ 0 ∷ 0 ∷ 5 ∷ 0 ∷ 0 ∷ 0 ∷ 0 ∷ []) ≡ optimise_call (zeros 512) ∷ []
unfolding Bytes.from_little_endian Bytes.bytes_at kinds call_of front_call calls_from calls_of
ends_at_kind = refl

-- so does a call that does not fit: its text would have 256 bytes
ends_at_end : calls_of 512 (5 ∷ 0 ∷ 0 ∷ 0 ∷ 0 ∷ 3 ∷ 1 ∷ 0 ∷ 1 ∷ 128 ∷ 97 ∷ 120 ∷ []) ≡ optimise_call (zeros 512) ∷ []
unfolding Bytes.from_little_endian Bytes.bytes_at kinds call_of front_call calls_from calls_of
ends_at_end = refl

-- a look up of a
look_up_a : List ℕ
look_up_a = 0 ∷ 1 ∷ 0 ∷ 0 ∷ 0 ∷ 97 ∷ []

-- an insertion of a "x"
insert_a : List ℕ
insert_a = 3 ∷ 1 ∷ 1 ∷ 0 ∷ 128 ∷ 97 ∷ 120 ∷ []

-- whether a script on an empty image of that version in a slice of 768 bytes, the first L of them given, with this working slice has these codes and leaves this working slice
leaves_in : ℕ → List ℕ → ℕ → List ℕ → List ℕ → List ℕ → Bool
leaves_in version script L work codes left =
    let r = played (calls_of (length work) script) (create (zeros 768) (record { version = version; identifier = 1 })).image L work (zeros (length codes)) in
    bytes_equal r.codes codes && bytes_equal r.work left

-- the same in a file of either version
leaves : List ℕ → ℕ → List ℕ → List ℕ → List ℕ → Bool
leaves script L work codes left = leaves_in 4 script L work codes left && leaves_in 5 script L work codes left

-- the working slice: 1, 2 and a look up keep it; an insertion zeroes it, and it stays so
work_left_by_calls : T (
    leaves insert_a 255 (7 ∷ 9 ∷ []) (1 ∷ []) (7 ∷ 9 ∷ [])
    && leaves insert_a 256 (7 ∷ 9 ∷ []) (2 ∷ []) (7 ∷ 9 ∷ [])
    && leaves look_up_a 256 (replicate 768 7) (100 ∷ []) (replicate 768 7)
    && leaves (look_up_a ++ insert_a ++ look_up_a) 256 (replicate 768 7) (100 ∷ 0 ∷ 0 ∷ []) (zeros 768))
unfolding look_up_a insert_a leaves_in leaves open_lists open_bytes open_order open_pairs open_header open_entry open_run open_index open_blocks open_check
    open_sorted_list open_place open_calls open_claim open_script
work_left_by_calls = tt
