-- Words say what they are made of: a state, a ring, and what a chase or a take came to, are read back from them as they were. A definition
-- that exchanges two fields or two answers, and code that follows it, fails here. Assumes nothing.
use Prim.{tt}
use Rattle.std.proofs.Common.{◌≡◌, ℕ, ◌+◌, ◌*◌, ◌%◌, ◌^◌, ◌<◌, Bool, true, false, cond, eqb, List, [], ◌∷◌, length, refl, ap, arith, lt-ltb}
use Rattle.guest.specs.Judge.{judge}
use Rattle.guest.specs.Memory.{Memory, inside, trb_at}
use Rattle.guest.specs.Bytes.{le}
use Rattle.guest.specs.Fields.{bits, bytes_of, low_of, high_of, whole_of}
use Rattle.guest.proofs.Bytes.{Bytes}
use Rattle.guest.proofs.Fields.{whole_halves}
use Rattle.trb.specs.Trb.{bit, when, ◌or◌, one_of}
use Rattle.event_ring.specs.Ring.{ok_state, good_entry, last, next_index, next_entry, next_tests, next_state, fresh_of, take, take_refused, nothing_at, taken_at}
use Rattle.event_ring.specs.declared.EventRing.{EventRing}
use Rattle.event_ring.specs.declared.EventReader.{EventReader}
use Rattle.event_ring.specs.Answers.{Take}
use Rattle.linked_ring.specs.declared.LinkedRing.{LinkedRing}
use Rattle.linked_ring.specs.declared.Notes.{Notes}
use Rattle.linked_ring.specs.declared.Found.{Found}
use Rattle.std.specs.Prelude.{Result, Ok, Err}
use Rattle.guest.specs.Refusals.{number_of, by_number}
use Rattle.guest.specs.declared.refusal.Refusal.{Refusal}
use Rattle.guest.proofs.Numbers.{numbered, number_lt}
use Rattle.linked_ring.specs.declared.Chase.{Chase}
use Rattle.trb.proofs.OneEncoding.{nth}
use Rattle.words.proofs.Back.{read, bit_lt}
use Rattle.linked_ring.specs.Chase as chase
use Rattle.linked_ring.proofs.Links.{ring_left, notes_left, address_left, bytes_left}
use Rattle.lomvigast_ffi.specs.Linked.{ring_of, ring_words, ring_after, refused_kind, notes_word, flat_chase}
use Rattle.lomvigast_ffi.specs.declared.linked.CChase.{CChase}
use Rattle.lomvigast_ffi.specs.Rings.{words_of, fits, state_of, take_number}

-- ---- a flag in a word, and in a byte

bit_two : (b : Bool) → bit b < 2
bit_two true = omega arith
bit_two false = omega arith

flag_back : (b : Bool) → eqb (bit b) 1 ≡ b
flag_back true = refl
flag_back false = refl

-- ---- states

-- the fields are of their types in the code
abbrev pub Typed : EventRing → Type 0
Typed s = (s.remaining < 2 ^ 32) × (s.index < 2 ^ 16) × (s.entries < 2 ^ 16)

pub state_back : (s : EventRing) → Typed s → state_of (words_of s) ≡ s
unfolding state_of fits
state_back s y =
    rw (
      lt-ltb s.remaining (2 ^ 32) y.0,
      lt-ltb s.index (2 ^ 16) y.1,
      lt-ltb s.entries (2 ^ 16) y.2,
      lt-ltb (bit s.ready) 2 (bit_two s.ready),
      lt-ltb (bit s.cycle) 2 (bit_two s.cycle),
      flag_back s.ready,
      flag_back s.cycle,
    )

-- ---- rings

pub ring_back : (r : LinkedRing) → ring_of (ring_words r) ≡ r
ring_back r = ap (λ (b : Bool). record { place = r.place; cycle = b }) (by r.cycle)
  where
    by : (b : Bool) → eqb (bit b % 2) 1 ≡ b
    by true = refl
    by false = refl

-- ---- what a chase came to, by the first word, and what it met, by the last

abbrev pub notes_in : ℕ → Notes
notes_in w = record { links = bits w 0 16; cleared = eqb (bits w 16 8) 1; completion = eqb (bits w 24 8) 1 }

notes_back : (n : Notes) → n.links < 2 ^ 16 → notes_in (notes_word n) ≡ n
notes_back n h =
    let g = read (16 ∷ 8 ∷ 8 ∷ []) (n.links ∷ bit n.cleared ∷ bit n.completion ∷ []) (notes_word n) (omega arith)
    (h, (bit_lt n.cleared, (bit_lt n.completion, tt))) in
    rw (nth 0 g, nth 1 g, nth 2 g, flag_back n.cleared, flag_back n.completion)

-- the whole of it, with the ring's words
abbrev pub chase_in : CChase → List ℕ → Result Chase Refusal
chase_in f ws =
    let kind = bits f.kind 0 8 in
    let came_to : Found → Result Chase Refusal = λ x. Ok (record { found = x; ring = ring_of ws; notes = notes_in f.notes }) in
    when (eqb kind 0) (came_to Found.NothingNew) or
    when (eqb kind 1) (came_to (Found.Trb (record { address = f.address; buffer = whole_of f.low f.high }))) or
    when (eqb kind 2) (came_to Found.TooManyLinks) or
    Err (by_number (bits f.kind 8 8))

-- the fields are of their types in the code
abbrev pub Whole : Found → Type 0
Whole Found.NothingNew = Unit
Whole (Found.Trb t) = Bytes t.buffer × (length t.buffer ≡ 16)
Whole Found.TooManyLinks = Unit

abbrev pub Fitting : Result Chase Refusal → Type 0
Fitting (Ok c) = Whole c.found × (c.notes.links < 2 ^ 16)
Fitting (Err r) = Unit

came_back : (x : Found) (r : LinkedRing) (n : Notes) (ws : List ℕ) → Whole x → n.links < 2 ^ 16
    → chase_in (flat_chase (Ok (record { found = x; ring = r; notes = n }))) (ring_after (Ok (record { found = x; ring = r; notes = n })) ws)
    ≡ Ok (record { found = x; ring = r; notes = n })
came_back Found.NothingNew r n ws w h = rw (ring_back r, notes_back n h)
came_back (Found.Trb t) r n ws w h = rw (whole_halves t.buffer w.0 w.1, ring_back r, notes_back n h)
came_back Found.TooManyLinks r n ws w h = rw (ring_back r, notes_back n h)

-- a refusal's word says any number that a byte holds
pub refusal_back : (n : ℕ) → n < 2 ^ 8 → (bits (refused_kind n) 0 8 ≡ 3) × (bits (refused_kind n) 8 8 ≡ n)
refusal_back n h =
    let g = read (8 ∷ 8 ∷ []) (3 ∷ n ∷ []) (refused_kind n) (omega arith) (omega arith, (h, tt)) in
    (nth 0 g, nth 1 g)

-- whatever words a refusal left as they were
pub chase_back : (c : Result Chase Refusal) (ws : List ℕ) → Fitting c → chase_in (flat_chase c) (ring_after c ws) ≡ c
chase_back (Ok c) ws f = came_back c.found c.ring c.notes ws f.0 f.1
chase_back (Err r) ws f =
    let p = refusal_back (number_of r) (number_lt r) in
    rw (p.0, p.1) (ap Err (numbered r))

-- and every word says what document 01 shows: the address, the sixteen bytes, the notes and the ring, also where there is nothing to show
pub record AllShown (c : Result Chase Refusal) (ws : List ℕ) : Type 0 where
  pub address : (flat_chase c).address ≡ address_left c
  pub bytes : whole_of (flat_chase c).low (flat_chase c).high ≡ bytes_left c
  pub notes : notes_in (flat_chase c).notes ≡ notes_left c
  pub ring : ring_of (ring_after c ws) ≡ ring_left (ring_of ws) c

pub chase_shown : (c : Result Chase Refusal) (ws : List ℕ) → Fitting c → AllShown c ws
unfolding le bytes_of
chase_shown (Ok c) ws f =
    record { address = refl; bytes = by c.found f.0; notes = notes_back c.notes f.1; ring = ring_back c.ring }
  where
    by : (x : Found) → Whole x → whole_of (low_of (chase.bytes_of x)) (high_of (chase.bytes_of x)) ≡ chase.bytes_of x
    by Found.NothingNew w = refl
    by (Found.Trb t) w = whole_halves t.buffer w.0 w.1
    by Found.TooManyLinks w = refl
chase_shown (Err r) ws f = record { address = refl; bytes = refl; notes = refl; ring = refl }

-- ---- what a take came to: no refusal of a take has the number of an event or of nothing

abbrev pub take_in : ℕ → Take
take_in n =
    when (eqb n 0) Take.Event or
    when (eqb n 255) Take.Nothing or
    Take.Refused n

-- a take refuses with 4, 1 or 5
abbrev pub refusable : Take → Bool
refusable Take.Event = true
refusable Take.Nothing = true
refusable (Take.Refused n) = one_of n (4 ∷ 1 ∷ 5 ∷ [])

pub record Told (t : Take) : Type 0 where
  pub back : take_in (take_number t) ≡ t
  pub number : refusable t ≡ true

pub take_back : (m : Memory) (r : EventReader) → Told (take m r).answer
unfolding take judge next_tests
take_back m r =
    let s = r.state in
    by (ok_state s) (inside m s.place 16) (fresh_of m s) (last s) (inside m (s.table + 16 * next_index s) 16) (good_entry m (next_entry m s))
  where
    by : (ok slot fresh final entry good : Bool)
        → Told (judge ((4, ok) ∷ (1, slot) ∷ cond fresh (cond final ((1, entry) ∷ (5, good) ∷ []) []) []) (take_refused r)
        (cond fresh (taken_at (trb_at m r.state.place) (next_state m r.state)) (nothing_at r))).answer
    by false slot fresh final entry good = record { back = refl; number = refl }
    by true false fresh final entry good = record { back = refl; number = refl }
    by true true false final entry good = record { back = refl; number = refl }
    by true true true false entry good = record { back = refl; number = refl }
    by true true true true false good = record { back = refl; number = refl }
    by true true true true true false = record { back = refl; number = refl }
    by true true true true true true = record { back = refl; number = refl }
