-- `csv_import::importing::read_orders` meets its contract: the first record is refused, a later one is, or all say the orders. Assumes nothing.
use Rattle.std.proofs.Common.{rules}
use Rattle.csv_import.proofs.OrdersLaws.{orders_refused_first, orders_refused_later, orders_said}
use Rattle.csv_import.proofs.importing.read_orders.Goals as goal

pub returns-in_err-head : goal.returns-in_err-head
returns-in_err-head c = let told = orders_refused_first c.args.text.now c.in_err-head.field-0.0 c.in_err-head.ensures in search (rules, told)

pub returns-in_err-later : goal.returns-in_err-later
returns-in_err-later c = let told = orders_refused_later c.in_ok-head.ensures c.in_err-later.field-0.0 c.in_err-later.ensures in search (rules, told)

pub returns : goal.returns
returns c = orders_said c.in_ok-head.ensures c.in_ok-later.ensures
