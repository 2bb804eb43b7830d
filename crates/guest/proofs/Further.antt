-- What is inside a window is inside it further up; and the same bytes further up answer the same. Addresses are plain numbers here: where one
-- that is moved passes 2 ^ 64, no caller has it. Assumes nothing.
use Rattle.std.proofs.Common.{◌≡◌, ℕ, ◌+◌, ◌^◌, ◌≤◌, Bool, true, false, List, [], ◌∷◌, length, sym, refl, ◌∙◌, true≢false, arith}
use Rattle.guest.specs.Judge.{judge}
use Rattle.guest.specs.Memory.{Memory, window, offset, inside, write}
use Rattle.guest.specs.Answers.{number_at, trb_read, slot_read, write_number, write_memory, offset_of, part_of}
use Rattle.guest.specs.Further.{Further}
use Rattle.guest.proofs.Memory.{Within, inside_within, within_inside, inside_no}

module _ (d : ℕ) (m m' : Memory) (M : Further d m m') where
  pub inside_further : (a k : ℕ) → inside m' (a + d) k ≡ inside m a k
  inside_further a k = go (inside m a k) refl
    where
      up : Within m a k → Within m' (a + d) k
      up w =
          record {
            from = omega (arith, M.start, w.from);
            below = omega (arith, M.start, M.long, M.below, w.from, w.fits);
            fits = omega (arith, M.start, M.long, w.from, w.fits);
          }

      down : Within m' (a + d) k → Within m a k
      down w =
          record {
            from = omega (arith, M.start, w.from);
            below = omega (arith, w.below);
            fits = omega (arith, M.start, M.long, w.from, w.fits);
          }

      go : (b : Bool) → inside m a k ≡ b → inside m' (a + d) k ≡ b
      go true h = within_inside m' (a + d) k (up (inside_within m a k h))
      go false h = inside_no m' (a + d) k (λ w. true≢false (sym (within_inside m a k (down w)) ∙ h))

-- the same bytes, d further up
module _ (d b : ℕ) (l : List ℕ) (below : b + d + length l ≤ 2 ^ 64) (a : ℕ) where
  abbrev m : Memory
  m = window b l

  abbrev m' : Memory
  m' = window (b + d) l

  within : (k : ℕ) → inside m' (a + d) k ≡ inside m a k
  within = inside_further d m m' (record { start = refl; long = refl; below = below }) a

  there : offset m' (a + d) ≡ offset m a
  there = omega arith

  pub number_further : (k : ℕ) → number_at m' (a + d) k ≡ number_at m a k
  number_further k = rw (within k, there)

  pub read_further : trb_read m' (a + d) ≡ trb_read m a
  read_further = rw (within 16, there)

  pub slot_further : slot_read m' (a + d) ≡ slot_read m a
  slot_further = rw (within 16, there)

  pub offset_further : (k : ℕ) → offset_of m' (a + d) k ≡ offset_of m a k
  offset_further k = rw (within k, there)

  pub part_further : (k : ℕ) → part_of m' (a + d) k ≡ part_of m a k
  part_further k = rw (within k, there)

  pub write_number_further : write_number m' (a + d) ≡ write_number m a
  write_number_further = rw (within 16)

  pub write_further : (trb : List ℕ) → write_memory m' (a + d) trb ≡ window (b + d) (write_memory m a trb).bytes
  unfolding judge
  write_further trb = rw (within 16, there) (moved (inside m a 16))
    where
      moved : (i : Bool) → judge ((1, i) ∷ []) (λ (n : ℕ). m') (window (b + d) (write m a trb).bytes) ≡ window (b + d) (judge ((1, i) ∷ []) (λ (n : ℕ). m) (write m a trb)).bytes
      moved true = refl
      moved false = refl
