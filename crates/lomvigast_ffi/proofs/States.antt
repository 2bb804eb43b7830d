-- A ring's words and its state: what the words of the usual case say, and where a step leads. Assumes nothing.
use Rattle.std.proofs.Common.{◌≡◌, ℕ, ◌+◌, ◌-◌, ◌*◌, ◌/◌, ◌%◌, ◌^◌, ◌<◌, ◌≤◌, true, false, ◌&&◌, eqb, ltb, leb, List, get_or, mod-eq_of_lt, arith, ltb-true, lt-ltb, eq-eqb, ne_eqb, eqb-true, le-leb, leb-true}
use Rattle.guest.proofs.Tests.{both}
use Rattle.event_ring.specs.Ring.{ok_state, along}
use Rattle.lomvigast_ffi.proofs.Slots.{bit_one}
use Rattle.lomvigast_ffi.specs.Rings.{words_of, fits, fields_of, state_of, plain, stepped}

-- a word that its field can hold is read whole
pub held : (ws : List ℕ) → fits ws ≡ true
    → (get_or ws 2 0 % 2 ^ 32 ≡ get_or ws 2 0) × (get_or ws 3 0 % 2 ^ 16 ≡ get_or ws 3 0) × (get_or ws 4 0 % 2 ^ 16 ≡ get_or ws 4 0)
unfolding fits
held ws h =
    let a1 = ltb (get_or ws 2 0) (2 ^ 32) in
    let a2 = a1 && ltb (get_or ws 3 0) (2 ^ 16) in
    let a3 = a2 && ltb (get_or ws 4 0) (2 ^ 16) in
    let a4 = a3 && ltb (get_or ws 5 0) 2 in
    let h3 = (both a3 _ (both a4 _ h).0).0 in
    let h2 = both a2 _ h3 in
    let h1 = both a1 _ h2.0 in
    (mod-eq_of_lt (ltb-true _ _ h1.0), mod-eq_of_lt (ltb-true _ _ h1.1), mod-eq_of_lt (ltb-true _ _ h2.1))

module _ (ws : List ℕ) (h : plain ws ≡ true) where
  abbrev w : ℕ → ℕ
  w i = get_or ws i 0

  -- the numbers that the tests compare
  pub record Numbers : Type 0 where
    pub table : w 0 % 64 ≡ 0
    pub place : w 1 % 16 ≡ 0
    pub more : 2 ≤ w 2
    pub most : w 2 ≤ 4096
    pub within : w 3 < w 4
    pub few : w 4 ≤ 16
    pub ready : w 5 ≡ 1
    pub cycle : w 6 < 2

  pub numbers : Numbers
  unfolding plain
  numbers =
      let a1 = eqb (w 0 % 64) 0 in
      let a2 = a1 && eqb (w 1 % 16) 0 in
      let a3 = a2 && leb 2 (w 2) in
      let a4 = a3 && leb (w 2) 4096 in
      let a5 = a4 && ltb (w 3) (w 4) in
      let a6 = a5 && leb (w 4) 16 in
      let a7 = a6 && eqb (w 5) 1 in
      let h8 = both a7 _ h in
      let h7 = both a6 _ h8.0 in
      let h6 = both a5 _ h7.0 in
      let h5 = both a4 _ h6.0 in
      let h4 = both a3 _ h5.0 in
      let h3 = both a2 _ h4.0 in
      let h2 = both a1 _ h3.0 in
      record {
        table = eqb-true _ _ h2.0;
        place = eqb-true _ _ h2.1;
        more = leb-true _ _ h3.1;
        most = leb-true _ _ h4.1;
        within = ltb-true _ _ h5.1;
        few = leb-true _ _ h6.1;
        ready = eqb-true _ _ h7.1;
        cycle = ltb-true _ _ h8.1;
      }

  -- so the words are those of a state, which keeps its limits and has a slot after the present one
  pub fields : state_of ws ≡ fields_of ws
  unfolding state_of fits
  fields =
      let n = numbers in
      rw (
        lt-ltb (w 2) (2 ^ 32) (omega (arith, n.most)),
        lt-ltb (w 3) (2 ^ 16) (omega (arith, n.within, n.few)),
        lt-ltb (w 4) (2 ^ 16) (omega (arith, n.few)),
        lt-ltb (w 5) 2 (omega (arith, n.ready)),
        lt-ltb (w 6) 2 n.cycle,
      )

  pub okay : ok_state (fields_of ws) ≡ true
  unfolding ok_state
  okay =
      let n = numbers in
      rw (
        eq-eqb (w 5) 1 n.ready,
        le-leb 1 (w 4) (omega (arith, n.within)),
        le-leb (w 4) 16 n.few,
        lt-ltb (w 3) (w 4) n.within,
        le-leb 1 (w 2) (omega (arith, n.more)),
        le-leb (w 2) 4096 n.most,
        eq-eqb (w 0 % 64) 0 n.table,
        eq-eqb (w 1 % 16) 0 n.place,
      )

  pub not_last : eqb (w 2) 1 ≡ false
  not_last = ne_eqb (w 2) 1 (λ e. omega (arith, numbers.more))

  -- the place as it was rounded
  pub rounded : (p : ℕ) → p ≡ w 1 / 16 * 16 → p ≡ w 1
  rounded p e = omega (arith, e, numbers.place)

  -- the words one slot on
  pub step : words_of (along (fields_of ws)) ≡ stepped ((w 1 + 16) % 2 ^ 64) (w 2 - 1) ws
  step = rw (bit_one (w 5) (omega (arith, numbers.ready)), bit_one (w 6) numbers.cycle)
