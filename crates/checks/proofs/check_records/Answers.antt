-- `checks::check_records` meets its contract. Assumes nothing.
use borrow.Author.Rules.{rules}
use Rattle.checks.proofs.Scanning.{scan_begin, scan_stop, scan_again, scan_over}
use Rattle.checks.proofs.check_records.Goals as goal

pub loop-i-init : goal.loop-i-init
loop-i-init c = scan_begin _ _

pub returns-in_err-check_record : goal.returns-in_err-check_record
returns-in_err-check_record c = search (scan_stop, rules)

pub loop-i-preserved : goal.loop-i-preserved
loop-i-preserved c = search (scan_again, rules)

pub returns : goal.returns
returns c = search (scan_over, rules)
