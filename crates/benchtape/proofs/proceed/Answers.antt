-- `proceed` meets its contract: where the bytes are answered, the program stands where a longer tape leads.
-- Assumes nothing.
use Rattle.benchtape.proofs.Going.{proceeded_ok}
use Rattle.benchtape.proofs.proceed.Goals as goal

pub returns : goal.returns
returns c = proceeded_ok c.args.progress _ c.requires.0 c.requires.1 c.answer.result c.answer.ensures
