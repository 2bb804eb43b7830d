-- The refusals of configure, add and take are document 01's, said a second time as facts (specs/Faults.antt): for every input the number is that
-- of the first fault. Assumes nothing.
use Prim.{tt}
use Rattle.std.proofs.Common.{◌≡◌, ℕ, ◌+◌, ◌*◌, ◌%◌, ◌^◌, Bool, true, false, cond, not, eqb, ltb, [], ◌∷◌, ◌++◌, length, replicate, sym, refl, ap, ◌∙◌, subst, inl, inr, true≢false, div-one, arith, le-ltb, lt-ltb, eqb-true}
use mathlib.Core.Bool.{beq}
use borrow.Author.Tests.{eqb-false}
use Rattle.guest.specs.Judge.{judge, refusal_of}
use Rattle.guest.specs.Memory.{Memory, inside, le, part, trb_at, write}
use Rattle.guest.proofs.Judge.{judge_refusal, judge_by, judge_passes, answer_passes}
use Rattle.guest.specs.Faults.{Not, FirstOf, none, this, later, Inside}
use Rattle.guest.proofs.Faults.{Says, says_eq, says_le, says_lt, says_bit, says_both, says_as, says_inside, asks, asks_where, asks_not}
use Rattle.guest.proofs.Memory.{Within, inside_within, write_length, write_there, write_elsewhere}
use Rattle.trb.specs.Trb.{cycle_of}
use Rattle.trb.specs.Events.{valid, event_bytes}
use Rattle.trb.proofs.OneEncoding.{bytes_length}
use Rattle.trb.specs.declared.event.EventTrb.{EventTrb}
use Rattle.event_ring.specs.Ring.{entry_at, good_entry, count_ok, ok_state, last, next_index, next_state, entry_tests, next_tests, configure_tests, started, configured, refused_at, moved_to, full, add_tests, added, added_memory, empty, reader_configured, fresh_of, take_tests, take_refused, take, number_of}
use Rattle.event_ring.specs.Answers.{Moved, Take, TakeMoved}
use Rattle.event_ring.specs.Faults.{Allowed, Counted, Limits, Fits, Last, Full, Fresh, configure_faults, add_faults, take_faults, refused_with, Writes}
use Rattle.event_ring.specs.Faults as paper
use Rattle.event_ring.specs.declared.EventRing.{EventRing}
use Rattle.event_ring.specs.declared.EventReader.{EventReader}
use Rattle.event_ring.proofs.Laws.{add_numbered}
use Rattle.event_ring.proofs.Standard.{given, given_number}

-- ---- what document 01 asks, by the tests

says_counted : (n : ℕ) → Says (count_ok n) (Counted n)
says_counted n = says_as (says_both (says_le 1 n) (says_le n 16)) (λ p. record { some = p.0; most = p.1 }) (λ c. (c.some, c.most))

says_allowed : (m : Memory) (entry : ℕ) → Says (good_entry m (entry_at m entry)) (Allowed m entry)
unfolding good_entry entry_at
says_allowed m entry =
    let base = le m entry 8 in
    let size = le m (entry + 8) 4 in
    says_as (says_both (says_both (says_both (says_eq (base % 64) 0) (says_le 1 size)) (says_le size 4096)) (says_inside m base (16 * size)))
    (λ p. record { aligned = p.0.0.0; some = p.0.0.1; most = p.0.1; inside = p.1 })
    (λ e. (((e.aligned, e.some), e.most), e.inside))

says_limits : (s : EventRing) → Says (ok_state s) (Limits s)
unfolding ok_state
says_limits s =
    says_as (says_both (says_both (says_both (says_both (says_both (says_both (says_bit s.ready) (says_counted s.entries)) (says_lt s.index s.entries))
    (says_le 1 s.remaining)) (says_le s.remaining 4096)) (says_eq (s.table % 64) 0)) (says_eq (s.place % 16) 0))
    (λ p. record { ready = p.0.0.0.0.0.0; counted = p.0.0.0.0.0.1; index = p.0.0.0.0.1; some = p.0.0.0.1; most = p.0.0.1; table = p.0.1; place = p.1 })
    (λ l. ((((((l.ready, l.counted), l.index), l.some), l.most), l.table), l.place))

says_fits : (e : EventTrb) → Says (valid e) (Fits e)
unfolding valid
says_fits (EventTrb.Transfer t) = says_lt t.trb_transfer_length (2 ^ 24)
says_fits (EventTrb.CommandCompletion t) =
    rw (div-one t.command_trb_pointer) (says_both (says_eq (t.command_trb_pointer % 16) 0) (says_lt t.command_completion_parameter (2 ^ 24)))
says_fits (EventTrb.PortStatusChange t) = (λ h. tt, λ h. absurd (true≢false h))

-- ---- the next entry

next_entry_lem : (s : EventRing) → Limits s → s.table + 16 * next_index s ≡ paper.next_entry s
unfolding next_index
next_entry_lem s l = ap (λ (j : ℕ). s.table + 16 * j) (go (eqb (s.index + 1) s.entries) refl)
  where
    go : (b : Bool) → eqb (s.index + 1) s.entries ≡ b
        → cond b 0 (s.index + 1) ≡ cond (ltb (s.index + 1) s.entries) (s.index + 1) 0
    go true h = let q = eqb-true (s.index + 1) s.entries h in rw (le-ltb (s.index + 1) s.entries (omega arith))
    go false h = let q = eqb-false (s.index + 1) s.entries h in rw (lt-ltb (s.index + 1) s.entries (omega (arith, l.index, q)))

-- ---- configure

pub configure_refused : (m : Memory) (s : EventRing) (table entries : ℕ) → FirstOf (configure_faults m table entries) (configured m s table entries).refusal
unfolding configured judge
configure_refused m s table entries =
    subst (FirstOf (configure_faults m table entries))
    (sym (judge_refusal (λ (x : Moved). x.refusal) (configure_tests m table entries) (refused_at s) (moved_to (started m table entries)) (λ n. refl) refl))
    (asks (eqb (table % 64) 0) 2 (says_eq (table % 64) 0)
    (λ _. asks (count_ok entries) 3 (says_counted entries)
    (λ _. asks (inside m table (16 * entries)) 1 (says_inside m table (16 * entries))
    (λ _. asks (good_entry m (entry_at m table)) 5 (says_allowed m table) (λ _. none)))))

pub reader_configure_refused : (m : Memory) (r : EventReader) (table entries : ℕ)
    → FirstOf (configure_faults m table entries) (reader_configured m r table entries).refusal
unfolding reader_configured
reader_configure_refused m r table entries = configure_refused m r.state table entries

-- ---- never configured, or reset: refused with 4

pub never_configured : Not (Limits empty)
never_configured l = true≢false (sym l.ready)

-- ---- add

-- the last test, whose fact must not hold
fills : {P : Type 0} (b : Bool) (k : ℕ) → Says b P → FirstOf ((k, P) ∷ []) (cond (not b) 0 k)
fills true k s = this (s.0 refl)
fills false k s = later (s.1 refl) none

module _ (m : Memory) (s : EventRing) (report : ℕ) where
  full_in_next : Last s → Full m s report → le m (paper.next_entry s) 8 ≡ report
  full_in_next l (inl f) = sym f.1
  full_in_next l (inr f) = absurd (f.0 l)

  full_in_same : Not (Last s) → Full m s report → (s.place + 16) % 2 ^ 64 ≡ report
  full_in_same l (inl f) = absurd (l f.0)
  full_in_same l (inr f) = sym f.1

  -- what is asked of the slot after the present one
  move_refused : Limits s
      → FirstOf
      ((1, Last s × Not (Inside m (paper.next_entry s) 16)) ∷ (5, Last s × Not (Allowed m (paper.next_entry s))) ∷ (7, Full m s report) ∷ [])
      (refusal_of (next_tests m s ++ ((7, not (full m s report)) ∷ [])))
  unfolding judge next_tests next_state entry_at
  move_refused l = go (last s) refl
    where
      a : ℕ
      a = paper.next_entry s

      go : (b : Bool) → last s ≡ b
          → FirstOf ((1, Last s × Not (Inside m a 16)) ∷ (5, Last s × Not (Allowed m a)) ∷ (7, Full m s report) ∷ []) (refusal_of (next_tests m s ++ ((7, not (full m s report)) ∷ [])))
      go true h =
          let one = eqb-true s.remaining 1 h in
          rw (h, next_entry_lem s l)
          (asks_where (inside m a 16) 1 one (says_inside m a 16)
          (λ _. asks_where (good_entry m (entry_at m a)) 5 one (says_allowed m a)
          (λ _. fills (eqb (le m a 8) report) 7 (says_as (says_eq (le m a 8) report) (λ q. inl (one, sym q)) (full_in_next one)))))
      go false h =
          let more = eqb-false s.remaining 1 h in
          rw h
          (asks_not more (asks_not more
          (fills (eqb ((s.place + 16) % 2 ^ 64) report) 7 (says_as (says_eq ((s.place + 16) % 2 ^ 64) report) (λ q. inr (more, sym q)) (full_in_same more)))))

  pub add_refused : (e : EventTrb) → FirstOf (add_faults m s e report) (added m s e report).refusal
  unfolding added judge
  add_refused e =
      subst (FirstOf (add_faults m s e report))
      (sym (judge_refusal (λ (x : Moved). x.refusal) (add_tests m s e report) (refused_at s) (moved_to (next_state m s)) (λ n. refl) refl))
      (asks (valid e) 8 (says_fits e)
      (λ _. asks (ok_state s) 4 (says_limits s)
      (λ l. asks (eqb (report % 16) 0) 6 (says_eq (report % 16) 0)
      (λ _. asks (inside m s.place 16) 1 (says_inside m s.place 16)
      (λ _. move_refused l)))))

-- ---- take

says_same : (a b : Bool) → Says (beq a b) (a ≡ b)
says_same true true = (λ h. refl, λ h. absurd (true≢false h))
says_same true false = (λ h. absurd (true≢false (sym h)), λ h p. true≢false p)
says_same false true = (λ h. absurd (true≢false (sym h)), λ h p. true≢false (sym p))
says_same false false = (λ h. refl, λ h. absurd (true≢false h))

module _ (m : Memory) (s : EventRing) where
  enter_refused : Limits s
      → FirstOf
      ((1, (Fresh m s × Last s) × Not (Inside m (paper.next_entry s) 16)) ∷ (5, (Fresh m s × Last s) × Not (Allowed m (paper.next_entry s))) ∷ [])
      (refusal_of (cond (fresh_of m s) (next_tests m s) []))
  unfolding judge next_tests
  enter_refused l = go (fresh_of m s) (last s) refl refl
    where
      a : ℕ
      a = paper.next_entry s

      says : Says (fresh_of m s) (Fresh m s)
      says = says_same (cycle_of (trb_at m s.place)) s.cycle

      go : (f b : Bool) → fresh_of m s ≡ f → last s ≡ b
          → FirstOf ((1, (Fresh m s × Last s) × Not (Inside m a 16)) ∷ (5, (Fresh m s × Last s) × Not (Allowed m a)) ∷ [])
          (refusal_of (cond f (cond b (entry_tests m s) []) []))
      go true true h h' =
          let both : Fresh m s × Last s = (says.0 h, eqb-true s.remaining 1 h') in
          rw (next_entry_lem s l)
          (asks_where (inside m a 16) 1 both (says_inside m a 16)
          (λ _. asks_where (good_entry m (entry_at m a)) 5 both (says_allowed m a) (λ _. none)))
      go true false h h' =
          let more = eqb-false s.remaining 1 h' in
          asks_not (λ c. more c.1) (asks_not (λ c. more c.1) none)
      go false b h h' =
          let stale = says.1 h in
          asks_not (λ c. stale c.0) (asks_not (λ c. stale c.0) none)

number_read : (t : Take) → number_of t ≡ refused_with t
number_read (Take.Refused n) = refl
number_read Take.Event = refl
number_read Take.Nothing = refl

pub take_refused_lem : (m : Memory) (r : EventReader) → FirstOf (take_faults m r.state) (refused_with (take m r).answer)
unfolding take judge
take_refused_lem m r =
    subst (FirstOf (take_faults m r.state))
    (sym (judge_refusal (λ (x : TakeMoved). number_of x.answer) (take_tests m r.state) (take_refused r) (given m r (fresh_of m r.state)) (λ n. refl) (given_number m r (fresh_of m r.state))) ∙ number_read (take m r).answer)
    (asks (ok_state r.state) 4 (says_limits r.state)
    (λ l. asks (inside m r.state.place 16) 1 (says_inside m r.state.place 16)
    (λ _. enter_refused m r.state l)))

-- beside a refusal, and beside "none", there is nothing to show, and the reader is as it was
pub record Nothing (r : EventReader) (t : TakeMoved) : Type 0 where
  pub trb : t.trb ≡ replicate 16 0
  pub reader : t.reader ≡ r

pub take_shows_nothing : (m : Memory) (r : EventReader) → ((take m r).answer ≡ Take.Event → ⊥) → Nothing r (take m r)
unfolding take
take_shows_nothing m r =
    judge_by (λ (t : TakeMoved). (t.answer ≡ Take.Event → ⊥) → Nothing r t) (take_tests m r.state) (take_refused r) (given m r (fresh_of m r.state))
    (λ n h. record { trb = refl; reader = refl })
    (λ p. go (fresh_of m r.state))
  where
    go : (f : Bool) → ((given m r f).answer ≡ Take.Event → ⊥) → Nothing r (given m r f)
    go true h = absurd (h refl)
    go false h = record { trb = refl; reader = refl }

-- ---- an accepted add writes the event, and no other byte

pub add_writes : (m : Memory) (s : EventRing) (e : EventTrb) (report : ℕ) → (added m s e report).refusal ≡ 0
    → Writes m (added_memory m s e report) s.place (event_bytes e s.cycle)
unfolding added added_memory
add_writes m s e report h =
    let p =
    answer_passes (λ (x : Moved). x.refusal) (add_tests m s e report) (add_numbered m s e report) (refused_at s) (moved_to (next_state m s)) (λ n. refl) refl
    (added m s e report) refl h in
    let size = bytes_length e s.cycle in
    let fits : Within m s.place (length (event_bytes e s.cycle)) = rw size (inside_within m s.place 16 p.1.1.1.0) in
    rw (judge_passes (add_tests m s e report) (λ n. m) (write m s.place (event_bytes e s.cycle)) p)
    (record {
      start = refl;
      long = write_length m s.place (event_bytes e s.cycle) fits;
      there = ap (part (write m s.place (event_bytes e s.cycle)) s.place) (sym size) ∙ write_there m s.place (event_bytes e s.cycle) fits;
      elsewhere = λ a f o. write_elsewhere m s.place (event_bytes e s.cycle) fits a f (rw size o);
    })
