-- Laws of the results of a lexer.
use Rattle.express_lexer.specs.Reading.{lexis}
use Rattle.parsing.specs.LexingLaws as laws

-- The text and the bytes read so far determine the result, and how far the text is read then.
abbrev pub AnswersAreDetermined : Type 0
AnswersAreDetermined = laws.AnswersAreDetermined lexis

-- However far a text is read, there is a result.
abbrev pub EachReadingHasAnAnswer : Type 0
EachReadingHasAnAnswer = laws.EachReadingHasAnAnswer lexis

-- After the end, the result is the end again.
abbrev pub EndIsAnsweredAgain : Type 0
EndIsAnsweredAgain = laws.EndIsAnsweredAgain lexis

-- After a fault, the result is that fault again.
abbrev pub FaultIsAnsweredAgain : Type 0
FaultIsAnsweredAgain = laws.FaultIsAnsweredAgain lexis

-- The byte offsets of tokens increase.
abbrev pub PlacesRise : Type 0
PlacesRise = laws.PlacesRise lexis
