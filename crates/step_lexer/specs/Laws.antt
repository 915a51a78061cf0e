-- Laws of what a lexer returns.
use Rattle.step_lexer.specs.Reading.{lexis}
use Rattle.parsing.specs.LexingLaws as laws

-- The text and how far it is read determine what is returned, and how far the text is read then.
abbrev pub AnswersAreDetermined : Type 0
AnswersAreDetermined = laws.AnswersAreDetermined lexis

-- However far a text is read, there is something to return.
abbrev pub EachReadingHasAnAnswer : Type 0
EachReadingHasAnAnswer = laws.EachReadingHasAnAnswer lexis

-- after the end, the end is returned again
abbrev pub EndIsAnsweredAgain : Type 0
EndIsAnsweredAgain = laws.EndIsAnsweredAgain lexis

-- after a fault, the same fault is returned again
abbrev pub FaultIsAnsweredAgain : Type 0
FaultIsAnsweredAgain = laws.FaultIsAnsweredAgain lexis

-- the byte offsets of tokens rise
abbrev pub PlacesRise : Type 0
PlacesRise = laws.PlacesRise lexis
