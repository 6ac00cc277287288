-- `cutting::news` meets its contract: without an idle value all ones count, else the idle one is taken out first (`news_of_none`, `news_of_one`).
-- Assumes nothing.
use Rattle.cutting.proofs.StruckLaws.{news_of_none, news_of_one}
use Rattle.cutting.proofs.news.Goals as goal

pub returns-then-idle-eq0 : goal.returns-then-idle-eq0
returns-then-idle-eq0 c = news_of_none _ _ _ c.if-idle-eq0.true c.count.ensures

pub returns : goal.returns
returns c = news_of_one _ _ _ _ c.if-idle-eq0.false c.without.ensures c.count-2.ensures
