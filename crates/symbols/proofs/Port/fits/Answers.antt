-- `symbols::Port::fits` meets its contract at a width that bounds no value. Assumes nothing.
use Rattle.std.proofs.Common.{rules}
use Rattle.symbols.proofs.Fitting.{fits_zero, fits_wide}
use Rattle.symbols.proofs.Port.fits.Goals.{then-w-eq0-via-then-w-eq0, then-w-eq0-via-else-w-eq0+then-w-ge64}
use Rattle.symbols.proofs.Port.fits.Goals as goal

pub returns-then-w-eq0 : goal.returns-then-w-eq0
returns-then-w-eq0 c =
    elim c.then-w-eq0.branch [
      | then-w-eq0-via-then-w-eq0 w ↦ search (fits_zero, rules)
      | then-w-eq0-via-else-w-eq0+then-w-ge64 w ↦ search (fits_wide, rules)
    ]
