-- Bytes in a list, by their place in it.
use Rattle.std.specs.Prelude.{ℕ, zero, suc, ◌+◌, ◌*◌, List, ◌++◌, length, take, drop, slice_index}

-- the number that the k bytes from place i on are, little-endian: the first, and 256 times the number of the others
unfoldable pub le : List ℕ → ℕ → ℕ → ℕ
le l i zero = 0
le l i (suc k) = slice_index l i + 256 * le l (i + 1) k

-- the k bytes from place i on
unfoldable pub part : List ℕ → ℕ → ℕ → List ℕ
part l i k = take k (drop i l)

-- the list with the bytes v from place i on, and no other byte changed
unfoldable pub write : List ℕ → ℕ → List ℕ → List ℕ
write l i v = take i l ++ (v ++ drop (i + length v) l)
