-- By the tests in their order; the entry's are what its read answered by.
use Rattle.std.proofs.Common.{◌≡◌, ℕ, ◌*◌, true, sym, ◌∙◌, arith, eq-eqb, ne_eqb}
use Rattle.std.proofs.lemmas.Result.{err_from_is_err_and}
use Rattle.guest.specs.Judge.{judge}
use Rattle.guest.specs.Memory.{Memory, inside}
use Rattle.guest.specs.Refusals.{by_number}
use Rattle.guest.proofs.Tests.{told}
use Rattle.guest.proofs.Memory.{inside_less}
use Rattle.event_ring.specs.Answers.{moved}
use Rattle.event_ring.specs.Ring.{entry_at, read_tests, count_ok, refused_at, moved_to, started, configured}
use Rattle.event_ring.proofs.Laws.{counted, result_ok, result_err, stopped_as, read_numbered, moved_refuses}
use Rattle.event_ring.proofs.EventRing.configure.Goals as goal

-- entry 0 is inside where all of the table is
first_here : (m : Memory) (table entries : ℕ) → count_ok entries ≡ true → inside m table (16 * entries) ≡ true → inside m table 16 ≡ true
first_here m table entries n i = inside_less m table (16 * entries) 16 i (omega (arith, counted entries n))

pub returns-then-table-ne0 : goal.returns-then-table-ne0
unfolding configured judge by_number
returns-then-table-ne0 c = rw (ne_eqb _ _ c.if-table-ne0.true)

pub returns-then-not-count_ok : goal.returns-then-not-count_ok
unfolding configured judge by_number
returns-then-not-count_ok c = rw (eq-eqb _ _ c.if-table-ne0.false, told c.count_ok.ensures c.if-not-count_ok.true)

pub returns-then-not-inside : goal.returns-then-not-inside
unfolding configured judge by_number
returns-then-not-inside c =
    let test = told c.inside.ensures c.if-not-inside.true in
    rw (eq-eqb _ _ c.if-table-ne0.false, told c.count_ok.ensures c.if-not-count_ok.false, rw c.from.ensures at test)

pub returns-in_err-e : goal.returns-in_err-e
unfolding configured judge
returns-in_err-e c =
    let p = err_from_is_err_and c.from_residual.result c.from_residual.ensures.1 in
    let m = c.args.mem.now in
    let test = told c.inside.ensures c.if-not-inside.false in
    let counts = told c.count_ok.ensures c.if-not-count_ok.false in
    let all : inside m c.args.table (16 * c.args.entries) ≡ true = rw c.from.ensures at test in
    let stop = result_err (read_tests m c.args.table) (read_numbered m c.args.table) _ _ (sym c.read.ensures ∙ c.in_err-e.was) in
    let refused =
    stopped_as (read_tests m c.args.table) _ stop moved (refused_at c.args.self) (moved_to (started m c.args.table c.args.entries)) (moved_refuses c.args.self) in
    rw (p.1, p.2, eq-eqb _ _ c.if-table-ne0.false, counts, all) (rw (first_here m c.args.table c.args.entries counts all) at refused)

pub returns : goal.returns
unfolding configured judge
returns c =
    let m = c.args.mem.now in
    let test = told c.inside.ensures c.if-not-inside.false in
    let all : inside m c.args.table (16 * c.args.entries) ≡ true = rw c.from.ensures at test in
    let p = result_ok (read_tests m c.args.table) (entry_at m c.args.table) _ (sym c.read.ensures ∙ c.in_ok-e.was) in
    rw (eq-eqb _ _ c.if-table-ne0.false, told c.count_ok.ensures c.if-not-count_ok.false, all, p.0.1.0, p.1, c.new.ensures)
