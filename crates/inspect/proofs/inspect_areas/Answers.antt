-- `inspect_areas` meets its contract.
use Rattle.std.proofs.Common.{ap, arith, rules, List, ℕ, Bor}
use Rattle.std.proofs.lemmas.Result.{err_from_is_err_and}
use Rattle.marks.proofs.Laws.{marks_zero}
use Rattle.inspect.proofs.Laws.{areas_index, areas_inside, areas_runs, areas_read, index_few, data_long}
use Rattle.inspect.proofs.inspect_areas.Goals as goal

pub new-elements-requires-clause-inside : goal.new-elements-requires-clause-inside
new-elements-requires-clause-inside c = let is = c.in_ok-end.was in search areas_inside

pub new-area-requires-clause-whole : goal.new-area-requires-clause-whole
new-area-requires-clause-whole c = omega (arith, data_long _ c.args.form _ _ c.requires.d_value.0 _ c.position-start.ensures)

pub read_runs-requires : goal.read_runs-requires
read_runs-requires c =
    let few = index_few _ c.args.form _ _ c.requires.d_value.0 _ c.position-start.ensures c.requires.d_value.1 in
    record { index_len_bound = (rw c.new-elements.ensures.place_kept.0 few, search rules) }

pub settle-requires : goal.settle-requires
settle-requires c =
    let frame = c.requires.s_value.0 in
    let good = c.requires.s_value.1 in
    let number = c.nindex2-count.ensures.value in
    let bytes = ap (λ (b : Bor (List ℕ)). b.now) c.new-area.ensures.0 in
    record {
      runs_read =
          areas_read _ _ _ _ frame good _ c.position-start.ensures _ number _ c.read_index.ensures c.in_ok-end.end c.in_ok-end.was
          _ c.new-elements.ensures.given _ c.new-area.ensures.1 _ bytes
          _ _ _ 65536 c.read_runs.ensures (marks_zero 1024) (search rules) _ c.in_ok-runs.was;
      area_value = (c.new-area.ensures.1, search rules);
      d_value = (search rules, search rules, search rules);
      free_value = search rules;
    }

pub returns-in_err-end : goal.returns-in_err-end
returns-in_err-end c =
    let p = err_from_is_err_and c.from_residual.result c.from_residual.ensures.1 in
    let was = c.in_err-end.was in
    rw (p.1, p.2) (search areas_index)

pub returns-in_err-runs : goal.returns-in_err-runs
returns-in_err-runs c =
    let p = err_from_is_err_and c.from_residual-in_err-runs.result c.from_residual-in_err-runs.ensures.1 in
    let frame = c.requires.s_value.0 in
    let good = c.requires.s_value.1 in
    let number = c.nindex2-count.ensures.value in
    let bytes = ap (λ (b : Bor (List ℕ)). b.now) c.new-area.ensures.0 in
    rw (p.1, p.2)
    (areas_runs _ _ _ _ frame good _ c.position-start.ensures _ number _ c.read_index.ensures c.in_ok-end.end c.in_ok-end.was
    _ c.new-elements.ensures.given _ c.new-area.ensures.1 _ bytes _ _ _ 65536 c.read_runs.ensures _ c.in_err-runs.was)
