-- The whole table of marked cases agrees with the definitions, by computation. Assumes nothing.
use mathlib.Core.Path.{◌≡◌, refl}
use mathlib.Core.Bool.{true}
use Rattle.cases.specs.Cases.{marked, hold_all}

pub marked_cases_agree : hold_all marked ≡ true
unfolding marked hold_all
marked_cases_agree = refl
