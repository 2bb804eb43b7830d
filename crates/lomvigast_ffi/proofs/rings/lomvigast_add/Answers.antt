-- The usual case by its law, at a plain ring's place.
use Rattle.std.proofs.Common.{◌≡◌, ℕ, ◌+◌, ◌-◌, ◌%◌, ◌^◌, Bool, true, eqb, ◌&&◌, List, get_or, ap, ◌∙◌, ap₂, arith, eqb-true}
use Rattle.guest.specs.Memory.{window, inside}
use Rattle.guest.specs.Answers.{write_memory}
use Rattle.guest.proofs.Tests.{told, both}
use Rattle.lomvigast_ffi.specs.Rings.{plain, stepped}
use Rattle.lomvigast_ffi.proofs.States.{numbers, rounded}
use Rattle.lomvigast_ffi.proofs.Usual.{usual_add}
use Rattle.lomvigast_ffi.proofs.rings.lomvigast_add.Goals as goal

-- what the second test told
tested : (ws : List ℕ) (b : Bool) (report : ℕ) → b ≡ plain ws → b && eqb (report % 16) 0 ≡ true → (plain ws ≡ true) × (report % 16 ≡ 0)
tested ws b report e h = let p = both b (eqb (report % 16) 0) h in (told e p.0, eqb-true _ _ p.1)

pub overflow_sub-remaining : goal.overflow_sub-remaining
overflow_sub-remaining c =
    omega (arith, (numbers c.args.ring.now (tested _ _ c.args.report c.plain.ensures c.if-not-plain-report.false).0).more)

pub returns : goal.returns
returns c =
    let m = window c.args.start c.args.mem.now in
    let ws = c.args.ring.now in
    let t = tested ws _ c.args.report c.plain.ensures c.if-not-plain-report.false in
    let p = rounded ws t.0 _ c.rounded-place.ensures in
    let within : inside m (get_or ws 1 0) 16 ≡ true = rw (c.at.ensures, p) at (told c.inside.ensures c.if-not-inside.false) in
    let next : (c.rounded-place.result + 16) % 2 ^ 64 ≡ (get_or ws 1 0 + 16) % 2 ^ 64 = ap (λ (x : ℕ). (x + 16) % 2 ^ 64) p in
    let q = usual_add m ws t.0 within c.args.event.now c.args.report t.1 (λ z. c.if-next-report.false (next ∙ z))
    c.bytes-trb.result c.bytes-trb.ensures c.if-trb-lt256.false
    _ (c.write_trb.ensures.1 ∙ ap₂ (λ (x : ℕ) (trb : List ℕ). (write_memory m x trb).bytes) p c.whole.ensures) in
    (q.0, q.1, c.step.ensures ∙ ap (λ (x : ℕ). stepped x (get_or ws 2 0 - 1) ws) next ∙ q.2)
