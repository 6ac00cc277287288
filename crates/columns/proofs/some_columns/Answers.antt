-- `columns::some_columns` meets its contract: by `band_between` where `band` did its work, else by what `each_column` promises. Assumes nothing.
use native.Mathlib.Omega.{arith}
use Rattle.columns.proofs.ColumnsLaws.{band_between}
use Rattle.columns.proofs.some_columns.Goals as goal

pub returns-in-Ok : goal.returns-in-Ok
returns-in-Ok c = band_between c.args.n c.args.k c.args.from c.args.end (omega arith) c.in-Ok.ensures
