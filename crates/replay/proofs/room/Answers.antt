-- The array's length by a law: computing so long a list is beyond the checker.
use Rattle.std.proofs.Common.{ℕ, sym}
use Rattle.std.proofs.lemmas.List.{length-replicate}
use Rattle.replay.proofs.room.Goals as goal

pub returns : goal.returns
returns c = sym (length-replicate {A = ℕ} 0x100000 0)
