-- What is answered where all texts are told.
use Rattle.std.specs.Prelude.{Bool, ℕ, List, Some, Result, Ok}
use Rattle.std.proofs.Common.{sym, subst}
use Rattle.conformance.specs.Choices.{Choice}
use Rattle.reports.specs.declared.fault.Fault.{Fault}
use Rattle.shrinking.specs.declared.summary.Summary.{Summary}
use Rattle.shrinking.specs.Shrinking.{ShrinkAnswers, Shrinks, written_anew}
use Rattle.shrinking.specs.Laws.{ShrinkAnswersAreOne, FilesAreOne, SecondShrinksStay, SecondFilesStay}

pub answered : (c : Choice) (strict : Bool) (schema file output certificate : List ℕ) (result : Result Summary Fault)
    → Shrinks c strict (Some schema) (Some file) (written_anew output) (written_anew certificate) result
    → ShrinkAnswers c strict schema file output certificate result
answered c strict schema file output certificate result shrinks =
    subst (λ t. ShrinkAnswers c strict schema file output t result) (sym shrinks.certified)
    (subst (λ t. ShrinkAnswers c strict schema file t shrinks.certificate result) (sym shrinks.written)
    (subst (λ t. ShrinkAnswers c strict schema t shrinks.output shrinks.certificate result) (sym shrinks.bytes_are)
    (subst (λ t. ShrinkAnswers c strict t shrinks.bytes shrinks.output shrinks.certificate result) (sym shrinks.text_is)
    shrinks.answers)))

pub second_files_stay : SecondShrinksStay → SecondFilesStay
second_files_stay law c strict schema file output certificate again recertified m result first second =
    law c strict schema file output certificate again recertified m result
    (answered c strict schema file output certificate (Ok m) first)
    (answered c strict schema output again recertified result second)

pub files_are_one : ShrinkAnswersAreOne → FilesAreOne
files_are_one law c strict schema file output certificate again recertified r q first second =
    law c strict schema file output certificate again recertified r q
    (answered c strict schema file output certificate r first)
    (answered c strict schema file again recertified q second)
