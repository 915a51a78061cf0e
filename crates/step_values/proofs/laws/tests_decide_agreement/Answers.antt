use Rattle.step_values.proofs.Deciding.{test_sound, test_complete, each_sound, each_complete}
use Rattle.step_values.proofs.laws.tests_decide_agreement.Goals as goal

pub returns : goal.returns
returns c = (
  λ v w. (test_sound v w, test_complete v w),
  λ vs ws. (each_sound vs ws, each_complete vs ws),
)
