-- Guest memory is a window: lent bytes, the first of which has the guest address `start`. Whatever reads or writes memory does so by these
-- names, and by addresses alone.
use Rattle.std.specs.Prelude.{ℕ, ◌+◌, ◌-◌, ◌^◌, Bool, ◌&&◌, List, length, nat_le, slice_index}
use Rattle.guest.specs.Bytes as bytes

pub record Memory : Type 0 where
  pub start : ℕ
  pub bytes : List ℕ

abbrev pub window : ℕ → List ℕ → Memory
window start bytes = record { start = start; bytes = bytes }

-- how far from the window's start address a is
abbrev pub offset : Memory → ℕ → ℕ
offset m a = a - m.start

-- all k bytes from address a on are in the window: a is at least its start, a + k at most 2 ^ 64, and a − start + k at most its length
unfoldable pub inside : Memory → ℕ → ℕ → Bool
inside m a k = nat_le m.start a && nat_le (a + k) (2 ^ 64) && nat_le (offset m a + k) (length m.bytes)

-- the byte at a
abbrev pub byte : Memory → ℕ → ℕ
byte m a = slice_index m.bytes (offset m a)

-- the number that the k bytes from a on are
abbrev pub le : Memory → ℕ → ℕ → ℕ
le m a k = bytes.le m.bytes (offset m a) k

-- the k bytes from a on, and those of a TRB
abbrev pub part : Memory → ℕ → ℕ → List ℕ
part m a k = bytes.part m.bytes (offset m a) k

abbrev pub trb_at : Memory → ℕ → List ℕ
trb_at m a = part m a 16

-- the memory with the bytes v from a on, and no other byte changed
abbrev pub write : Memory → ℕ → List ℕ → Memory
write m a v = window m.start (bytes.write m.bytes (offset m a) v)
