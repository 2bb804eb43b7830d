-- By whether the words fit.
use Rattle.guest.proofs.Tests.{told}
use Rattle.lomvigast_ffi.specs.Rings.{state_of}
use Rattle.lomvigast_ffi.proofs.States.{held}
use Rattle.lomvigast_ffi.proofs.rings.state.Goals as goal

pub returns-then-not-fits : goal.returns-then-not-fits
unfolding state_of
returns-then-not-fits c = rw (told c.fits.ensures c.if-not-fits.true) c.new.ensures

pub returns : goal.returns
unfolding state_of
returns c =
    let y = told c.fits.ensures c.if-not-fits.false in
    let h = held c.args.ring.now y in
    rw (y, h.0, h.1, h.2)
