-- The same window, d further up. Which of its bytes are addresses, and so are d more, each crate above says of what it reads.
use Rattle.std.specs.Prelude.{◌≡◌, ℕ, ◌+◌, ◌^◌, ◌≤◌, length}
use Rattle.guest.specs.Memory.{Memory}

pub record Further (d : ℕ) (m m' : Memory) : Type 0 where
  pub start : m'.start ≡ m.start + d
  pub long : length m'.bytes ≡ length m.bytes
  -- there too it does not pass 2 ^ 64
  pub below : m'.start + length m'.bytes ≤ 2 ^ 64
