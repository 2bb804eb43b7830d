-- Beside no TRB the numbers of sixteen 0s.
use Rattle.lomvigast_ffi.proofs.Links.{zeros}
use Rattle.lomvigast_ffi.proofs.linked.flat_chase.Goals as goal

pub returns-in-NothingNew : goal.returns-in-NothingNew
returns-in-NothingNew c = rw (c.met.ensures, c.notes_word-notes.ensures, c.in-NothingNew.is, zeros.0, zeros.1)

pub returns-in-TooManyLinks : goal.returns-in-TooManyLinks
returns-in-TooManyLinks c = rw (c.met-in-TooManyLinks.ensures, c.notes_word-notes.ensures, c.in-TooManyLinks.is, zeros.0, zeros.1)
