use Rattle.certificate_text.proofs.EachText.{each_text}
use Rattle.certificate_text.proofs.laws.each_text_is_answered.Goals as goal

pub returns : goal.returns
returns c = each_text
