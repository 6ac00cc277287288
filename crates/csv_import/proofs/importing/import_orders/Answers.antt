-- `csv_import::importing::import_orders` meets its contract: the records are refused, their orders are, or the book is written. Assumes nothing.
use mathlib.Core.Path.{refl}
use Rattle.std.proofs.Common.{rules}
use Rattle.book.proofs.RefusalLaws.{some_number}
use Rattle.csv_import.proofs.OrdersLaws.{imports_broken, imports_refused, imports_written, orders_fit}
use Rattle.csv_import.proofs.importing.import_orders.Goals as goal

pub returns-in_err-orders : goal.returns-in_err-orders
returns-in_err-orders c =
    let told = imports_broken c.args.limits c.args.out.now c.in_err-orders.field-0.0 c.in_err-orders.ensures in
    search (rules, told)

pub returns-in_err-check_orders : goal.returns-in_err-check_orders
returns-in_err-check_orders c =
    let some = some_number c.in_err-check_orders.field-0.0 in
    let told = imports_refused c.args.limits c.args.out.now c.in_ok-orders.ensures c.in_err-check_orders.ensures some in
    search (rules, told)

pub write_book-requires : goal.write_book-requires
write_book-requires c =
    (c.in_ok-orders.ensures, orders_fit c.args.limits c.args.out.now c.in_ok-orders.ensures c.in_ok-check_orders.ensures c.requires refl)

pub returns : goal.returns
returns c =
    imports_written c.args.limits c.args.out.now c.in_ok-orders.ensures c.in_ok-check_orders.ensures c.requires refl c.write_book.ensures
