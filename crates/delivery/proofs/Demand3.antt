-- Demand 3, by an invariant between the world and the plain list: ring and reader stand at the positions that the numbers of accepted and taken
-- events name, the report is the place of the position that the number reported names, the table is the set-up's, and the slots hold the queue.
-- Assumes nothing.
use Prim.Native.Nat.{ℕ, ◌+◌, ◌*◌, ◌-◌, ◌≤◌, ◌<◌}
use mathlib.Core.Path.{◌≡◌, refl, sym, ◌∙◌, ap, ap₂, subst}
use mathlib.Core.Logic.{◌≢◌, ⊎_swap}
use mathlib.Core.Bool.{Bool, true, false, cond}
use mathlib.Core.List.{List, [], ◌∷◌, ◌++◌}
use native.Mathlib.Omega.{arith}
use native.Mathlib.Numerals.{add-one}
use native.Mathlib.Nat.{add-zero, div-one}
use native.Mathlib.Decide.{ℕ_discrete, dec_lt}
use lib.ListN.{length, length-append, get_or-append}
use lib.Seq.{get_or-append_seam}
use lib.Dec.{eqb}
use borrow.Author.Tests.{eq-eqb, ne_eqb}
use Rattle.guest.specs.Judge.{judge}
use Rattle.guest.specs.Memory.{Memory, trb_at, write}
use Rattle.guest.proofs.Memory.{Within, inside_within, write_length}
use Rattle.trb.specs.Trb.{cycle_of}
use Rattle.trb.specs.Events.{valid, Typed, event_bytes}
use Rattle.trb.specs.declared.event.EventTrb.{EventTrb}
use Rattle.trb.proofs.OneEncoding.{reads_back, cycle_back, bytes_length}
use Rattle.event_ring.specs.Ring.{next_state, full, refused_at, moved_to, started, configure_tests, configured, added, added_memory, reader_configured}
use Rattle.event_ring.specs.declared.EventRing.{EventRing}
use Rattle.event_ring.specs.Answers.{Moved}
use Rattle.delivery.specs.Plain.{Op, adds, takes, reports, changes, Turn, answers, final, Plain, nth, fits, list_machine}
use Rattle.delivery.specs.World.{Reader, World, ring_machine, standard_reader, port_reader}
use Rattle.delivery.specs.Demand3.{Setup, base, slots, Apart, Premises, Outside, Allowed, AllAllowed, empty_list, Delivers, Demand3, Statement}
use Rattle.delivery.specs.Demand3 as demand
use Rattle.delivery.proofs.Queue
use Rattle.delivery.proofs.Memory.{Same, write_same, trb_same, trb_put}
use Rattle.delivery.proofs.Walk.{walk, period, away, distinct, slot_apart, slot_inside, slot_aligned, some_slots, zero_slot}
use Rattle.delivery.proofs.Sound.{Kept, kept_earlier, inside_kept, table_from, sound, next_walk, add_judged, add_invalid, configures}
use Rattle.delivery.proofs.Tables.{tables}
use Rattle.delivery.proofs.Readers.{Reads, standard_reads, port_reads}

-- what the slot of position p holds, what it should hold, and its cycle
abbrev look : Setup → Memory → ℕ → List ℕ
look s m p = trb_at m (walk s p).place

abbrev cyc : Setup → ℕ → Bool
cyc s p = (walk s p).cycle

abbrev wanted : Setup → List EventTrb → ℕ → List ℕ
wanted s es p = event_bytes (nth es p) (cyc s p)

-- what the list asks of an event is what the ring asks
fits_valid : (e : EventTrb) → fits e ≡ valid e
unfolding fits valid
fits_valid (EventTrb.Transfer t) = refl
fits_valid (EventTrb.CommandCompletion t) = rw (div-one t.command_trb_pointer)
fits_valid (EventTrb.PortStatusChange t) = refl

-- ---- writes

module _ (s : Setup) (W : Premises s) (m : Memory) (K : Kept s m) where
  -- table and slots are in the window
  slot_here : (p : ℕ) → Within m (walk s p).place 16
  slot_here p = inside_within m _ 16 (inside_kept s W m K _ 16 (slot_inside s W p))

  table_here : m.start ≤ s.table
  table_here = omega (arith, K.start, table_from s W m K)

  module _ (a : ℕ) (v : List ℕ) (f : Within m a (length v)) where
    kept_write : Same m (write m a v) s.table (16 * s.entries) → Kept s (write m a v)
    kept_write same = record { start = K.start; len = write_length m a v f ∙ K.len; table = λ x l u. same x l u ∙ K.table x l u }

    look_write : (p : ℕ) → Same m (write m a v) (walk s p).place 16 → look s (write m a v) p ≡ look s m p
    look_write p = trb_same m (write m a v) refl (walk s p).place (slot_here p) (write_length m a v f)

  fits_outside : (a : ℕ) (v : List ℕ) → Outside s a (length v) → Within m a (length v)
  fits_outside a v O = inside_within m a (length v) (inside_kept s W m K a (length v) O.memory)

  kept_outside : (a : ℕ) (v : List ℕ) → Outside s a (length v) → Kept s (write m a v)
  kept_outside a v O = kept_write a v (fits_outside a v O) (write_same m a v (fits_outside a v O) s.table (16 * s.entries) table_here O.table)

  look_outside : (a : ℕ) (v : List ℕ) → Outside s a (length v) → (p : ℕ) → look s (write m a v) p ≡ look s m p
  look_outside a v O p =
      look_write a v (fits_outside a v O) p
      (write_same m a v (fits_outside a v O) (walk s p).place 16 (slot_here p).from (⊎_swap (slot_apart s W a (length v) p (λ j h. ⊎_swap (O.segment j h)))))

  -- a TRB put at position a keeps the table, stands there and a lap later, and leaves the positions between
  module _ (a : ℕ) (v : List ℕ) (n : length v ≡ 16) where
    put : Memory
    put = write m (walk s a).place v

    fits_put : Within m (walk s a).place (length v)
    fits_put = rw n (slot_here a)

    put_apart : (b k : ℕ) → m.start ≤ b → Apart (walk s a).place 16 b k → Same m put b k
    unfolding put
    put_apart b k f h = write_same m (walk s a).place v fits_put b k f (subst (λ (l : ℕ). Apart (walk s a).place l b k) (sym n) h)

    kept_put : Kept s put
    unfolding put
    kept_put = kept_write (walk s a).place v fits_put (put_apart _ _ table_here (slot_apart s W _ _ a (tables s W)))

    look_put : look s put a ≡ v
    unfolding put
    look_put = trb_put m v (walk s a).place n fits_put

    look_again : look s put (a + slots s) ≡ v
    look_again = rw (period s W a) look_put

    look_others : (p : ℕ) → p ≢ a → p < a + slots s → a < p + slots s → look s put p ≡ look s m p
    unfolding put
    look_others p d h l = look_write (walk s a).place v fits_put p (put_apart (walk s p).place 16 (slot_here p).from (go (dec_lt p a)))
      where
        go : Dec (p < a) → Apart (walk s a).place 16 (walk s p).place 16
        go (yes lt) = ⊎_swap (away s W p a lt l)
        go (no ge) = away s W a p (omega arith) h

-- ---- the invariant

record Inv (s : Setup) (R : Reader) (Q : Reads s R) (w : World R.State) (l : Plain) : Type 0 where
  kept : Kept s w.mem
  ring_at : w.ring ≡ walk s (length l.events)
  reader_at : Q.At w.mem w.reader l.taken
  report_at : w.report ≡ (walk s l.reported).place
  valids : (p : ℕ) → p < length l.events → (valid (nth l.events p) ≡ true) × Typed (nth l.events p)
  queue : Queue.Queue (slots s) cycle_of (cyc s) (look s w.mem) (wanted s l.events) (length l.events) l.taken l.reported

-- an operation keeps it, and is answered as the list answers it
record KeptBy (s : Setup) (R : Reader) (Q : Reads s R) (x : Turn (World R.State)) (y : Turn Plain) : Type 0 where
  same : x.answer ≡ y.answer
  inv : Inv s R Q x.after y.after

module _ (s : Setup) (W : Premises s) (R : Reader) (Q : Reads s R) (w : World R.State) (l : Plain) (I : Inv s R Q w l) where
  -- the report is the slot after the ring's exactly if all slots but one are accepted and not reported
  is_full : full w.mem w.ring w.report ≡ eqb (length l.events - l.reported) (slots s - 1)
  is_full =
      rw (I.ring_at, next_walk s W w.mem I.kept (length l.events), I.report_at)
      (Queue.full (slots s) (λ p. (walk s p).place) (λ p. ap (λ (k : EventRing). k.place) (period s W p)) (distinct s W)
      l.reported (length l.events) (omega (arith, I.queue.reported, I.queue.taken)) I.queue.room)

  judged : (e : EventTrb) → valid e ≡ true → {B : Type 0} (refuse : ℕ → B) (b : B)
      → judge (Rattle.event_ring.specs.Ring.add_tests w.mem w.ring e w.report) refuse b
      ≡ cond (eqb (length l.events - l.reported) (slots s - 1)) (refuse 7) b
  judged e v refuse b =
      add_judged w.mem w.ring (rw I.ring_at (sound s W w.mem I.kept (length l.events))) e w.report
      (rw I.report_at (slot_aligned s W l.reported)) v refuse b
      ∙ rw is_full

  -- ---- adding

  add_refused_8 : (e : EventTrb) → valid e ≡ false → KeptBy s R Q (ring_machine R w (adds e)) (list_machine (slots s) l (adds e))
  unfolding ring_machine list_machine added added_memory
  add_refused_8 e v =
      rw (
        add_invalid w.mem w.ring e w.report v (refused_at w.ring) (moved_to (next_state w.mem w.ring)),
        add_invalid w.mem w.ring e w.report v (λ k. w.mem) (write w.mem w.ring.place (event_bytes e w.ring.cycle)),
        fits_valid e ∙ v,
      )
      (record { same = refl; inv = I })

  add_refused_7 : (e : EventTrb) → valid e ≡ true → length l.events - l.reported ≡ slots s - 1
      → KeptBy s R Q (ring_machine R w (adds e)) (list_machine (slots s) l (adds e))
  unfolding ring_machine list_machine added added_memory
  add_refused_7 e v f =
      rw (
        judged e v (refused_at w.ring) (moved_to (next_state w.mem w.ring)),
        judged e v (λ k. w.mem) (write w.mem w.ring.place (event_bytes e w.ring.cycle)),
        fits_valid e ∙ v,
        eq-eqb (length l.events - l.reported) (slots s - 1) f,
      )
      (record { same = refl; inv = I })

  longer : (e : EventTrb) → length (l.events ++ (e ∷ [])) ≡ length l.events + 1
  longer e = length-append l.events (e ∷ [])

  nth_old : (e : EventTrb) (p : ℕ) → p < length l.events → nth (l.events ++ (e ∷ [])) p ≡ nth l.events p
  nth_old e p h = get_or-append l.events (e ∷ []) _ p h

  nth_new : (e : EventTrb) → nth (l.events ++ (e ∷ [])) (length l.events) ≡ e
  nth_new e = get_or-append_seam l.events e [] _

  add_accepted : (e : EventTrb) → Typed e → valid e ≡ true → length l.events - l.reported ≢ slots s - 1
      → KeptBy s R Q (ring_machine R w (adds e)) (list_machine (slots s) l (adds e))
  unfolding ring_machine list_machine added added_memory put
  add_accepted e y v f =
      let a = length l.events in
      let c = cyc s a in
      let bytes = event_bytes e c in
      let size = bytes_length e c in
      let K = I.kept in
      let K' = kept_put s W w.mem K a bytes size in
      let here : wanted s (l.events ++ (e ∷ [])) a ≡ bytes = ap (λ (x : EventTrb). event_bytes x c) (nth_new e) in
      rw (
        judged e v (refused_at w.ring) (moved_to (next_state w.mem w.ring)),
        judged e v (λ k. w.mem) (write w.mem w.ring.place (event_bytes e w.ring.cycle)),
        fits_valid e ∙ v,
        ne_eqb (length l.events - l.reported) (slots s - 1) f,
        I.ring_at,
      )
      (record {
        same = refl;
        inv =
            record {
              kept = K';
              ring_at = rw (longer e, add-one a) (next_walk s W w.mem K a);
              reader_at = Q.stays w.mem (put s W w.mem K a bytes size) K K' w.reader l.taken I.reader_at;
              report_at = I.report_at;
              valids = λ p h. each p h (ℕ_discrete p a);
              queue =
                  rw (longer e)
                  (Queue.added (slots s) cycle_of (cyc s) (look s w.mem) (look s (put s W w.mem K a bytes size))
                  (wanted s l.events) (wanted s (l.events ++ (e ∷ []))) a l.taken l.reported
                  I.queue f
                  (λ p low high d. look_others s W w.mem K a bytes size p d high (omega (arith, I.queue.room, I.queue.reported)))
                  (look_put s W w.mem K a bytes size ∙ sym here)
                  (look_again s W w.mem K a bytes size ∙ sym here)
                  (λ p h. ap (λ (x : EventTrb). event_bytes x (cyc s p)) (nth_old e p h))
                  (ap cycle_of here ∙ cycle_back e c y v)
                  (ap (λ (k : EventRing). k.cycle) (period s W a)));
            };
      })
    where
      each : (p : ℕ) → p < length (l.events ++ (e ∷ [])) → Dec (p ≡ length l.events)
          → (valid (nth (l.events ++ (e ∷ [])) p) ≡ true) × Typed (nth (l.events ++ (e ∷ [])) p)
      each p h (yes q) = rw (q, nth_new e) (v, y)
      each p h (no q) = rw (nth_old e p (omega (arith, longer e))) (I.valids p (omega (arith, longer e)))

  add_kept : (e : EventTrb) → Typed e → KeptBy s R Q (ring_machine R w (adds e)) (list_machine (slots s) l (adds e))
  add_kept e y = go (valid e) refl (ℕ_discrete (length l.events - l.reported) (slots s - 1))
    where
      go : (b : Bool) → valid e ≡ b → Dec (length l.events - l.reported ≡ slots s - 1)
          → KeptBy s R Q (ring_machine R w (adds e)) (list_machine (slots s) l (adds e))
      go false v d = add_refused_8 e v
      go true v (yes f) = add_refused_7 e v f
      go true v (no f) = add_accepted e y v f

  -- ---- taking

  takes_none : l.taken ≡ length l.events → KeptBy s R Q (ring_machine R w takes) (list_machine (slots s) l takes)
  unfolding ring_machine list_machine
  takes_none e =
      let stale = I.queue.stale l.taken (omega arith) (omega (arith, some_slots s W)) in
      rw (Q.finds_none w.mem I.kept w.reader l.taken I.reader_at stale, eq-eqb l.taken (length l.events) e)
      (record { same = refl; inv = I })

  takes_one : l.taken < length l.events → KeptBy s R Q (ring_machine R w takes) (list_machine (slots s) l takes)
  unfolding ring_machine list_machine
  takes_one h =
      let held = I.queue.held l.taken (omega arith) h in
      let t = Q.takes w.mem I.kept w.reader l.taken I.reader_at held.1 in
      let ok = I.valids l.taken h in
      rw (t.1, held.0, reads_back (nth l.events l.taken) (cyc s l.taken) ok.1 ok.0, ne_eqb l.taken (length l.events) (λ e. omega arith))
      (record {
        same = refl;
        inv =
            record {
              kept = I.kept;
              ring_at = I.ring_at;
              reader_at = t.2;
              report_at = I.report_at;
              valids = I.valids;
              queue = Queue.took (slots s) cycle_of (cyc s) h I.queue;
            };
      })

  take_kept : KeptBy s R Q (ring_machine R w takes) (list_machine (slots s) l takes)
  take_kept = go (dec_lt l.taken (length l.events))
    where
      go : Dec (l.taken < length l.events) → KeptBy s R Q (ring_machine R w takes) (list_machine (slots s) l takes)
      go (yes h) = takes_one h
      go (no h) = takes_none (omega (arith, I.queue.taken))

  -- ---- reporting, and changes elsewhere

  report_kept : KeptBy s R Q (ring_machine R w reports) (list_machine (slots s) l reports)
  unfolding ring_machine list_machine
  report_kept =
      record {
        same = refl;
        inv =
            record {
              kept = I.kept;
              ring_at = I.ring_at;
              reader_at = I.reader_at;
              report_at = Q.placed w.mem w.reader l.taken I.reader_at;
              valids = I.valids;
              queue = Queue.reports (slots s) cycle_of (cyc s) I.queue;
            };
      }

  change_kept : (a : ℕ) (v : List ℕ) → Outside s a (length v) → KeptBy s R Q (ring_machine R w (changes a v)) (list_machine (slots s) l (changes a v))
  unfolding ring_machine list_machine
  change_kept a v O =
      let K' = kept_outside s W w.mem I.kept a v O in
      record {
        same = refl;
        inv =
            record {
              kept = K';
              ring_at = I.ring_at;
              reader_at = Q.stays w.mem (write w.mem a v) I.kept K' w.reader l.taken I.reader_at;
              report_at = I.report_at;
              valids = I.valids;
              queue = Queue.changed (slots s) cycle_of (cyc s) (look s (write w.mem a v)) (look_outside s W w.mem I.kept a v O) I.queue;
            };
      }

  each_kept : (o : Op) → Allowed s o → KeptBy s R Q (ring_machine R w o) (list_machine (slots s) l o)
  each_kept (adds e) h = add_kept e h
  each_kept takes h = take_kept
  each_kept reports h = report_kept
  each_kept (changes a v) h = change_kept a v h

-- ---- from the set-up through every list of operations

module _ (s : Setup) (W : Premises s) (R : Reader) (Q : Reads s R) where
  ring_configured_lem : configured s.ring_mem s.ring s.table s.entries ≡ moved_to (walk s 0)
  ring_configured_lem = configures s W s.ring_mem (kept_earlier s s.ring_mem W.ring_earlier) s.ring

  start_inv : Inv s R Q (demand.started s R) empty_list
  unfolding walk
  start_inv =
      record {
        kept = record { start = refl; len = refl; table = λ x low high. refl };
        ring_at = ap (λ (x : Moved). x.ring) ring_configured_lem;
        reader_at = Q.starts;
        report_at = first_place;
        valids = λ p h. absurd (omega arith);
        queue =
            record {
              reported = omega arith;
              taken = omega arith;
              room = omega (arith, some_slots s W);
              held = λ p low high. absurd (omega arith);
              stale = λ p low high. zero_slot s W p (omega arith);
            };
      }
    where
      first_place : base s 0 ≡ (walk s 0).place
      first_place = ap (λ (k : ℕ). (Rattle.event_ring.specs.Ring.entry_at s.mem k).base) (add-zero s.table)

  answers_same : (ops : List Op) (w : World R.State) (l : Plain) → Inv s R Q w l → AllAllowed s ops
      → (answers (ring_machine R) w ops ≡ answers (list_machine (slots s)) l ops) × Inv s R Q (final (ring_machine R) w ops) (final (list_machine (slots s)) l ops)
  unfolding answers final
  answers_same [] w l I h = (refl, I)
  answers_same (o ∷ os) w l I h =
      let k = each_kept s W R Q w l I o h.0 in
      let rest = answers_same os (ring_machine R w o).after (list_machine (slots s) l o).after k.inv h.1 in
      (ap₂ ◌∷◌ k.same rest.0, rest.1)

  delivers : (ops : List Op) → AllAllowed s ops → Delivers s R ops
  delivers ops h =
      let r = answers_same ops (demand.started s R) empty_list start_inv h in
      let I = r.1 in
      record {
        answered = r.0;
        drained = λ e.
            let w = final (ring_machine R) (demand.started s R) ops in
            let l = final (list_machine (slots s)) empty_list ops in
            let at = rw e at I.reader_at in (
              Q.placed w.mem w.reader (length l.events) at ∙ ap (λ (k : EventRing). k.place) (sym I.ring_at),
              Q.cycled w.mem w.reader (length l.events) at ∙ ap (λ (k : EventRing). k.cycle) (sym I.ring_at),
            );
      }

reader_configured_lem : (s : Setup) → Premises s → (reader_configured s.reader_mem s.reader s.table s.entries).refusal ≡ 0
unfolding reader_configured
reader_configured_lem s W =
    ap (λ (x : Moved). x.refusal) (configures s W s.reader_mem (kept_earlier s s.reader_mem W.reader_earlier) s.reader.state)

pub demand3 : Statement
unfolding Statement
demand3 s W =
    record {
      ring_configured = ap (λ (x : Moved). x.refusal) (ring_configured_lem s W (standard_reader s.table s.entries) (standard_reads s W));
      reader_is_configured = reader_configured_lem s W;
      standard = delivers s W (standard_reader s.table s.entries) (standard_reads s W);
      port = delivers s W (port_reader (reader_configured s.reader_mem s.reader s.table s.entries).reader) (port_reads s W);
    }
