-- How strong the public statements are. Every contract is an equation of the result, `r ≡ definition of the entry values`, and of the memory at
-- exit: no second answer satisfies it, whatever the function. Assumes nothing.
use mathlib.Core.Path.{◌≡◌, sym, ◌∙◌}

pub no_second_answer : {A : Type 0} {definition : A} (r second : A) → r ≡ definition → second ≡ definition → second ≡ r
no_second_answer r second e f = f ∙ sym e
