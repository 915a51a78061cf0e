-- The texts that faults are reported with.
use Rattle.std.specs.Prelude.{ℕ, List, codes}
use Rattle.step_literals.specs.declared.fault.Flaw.{Flaw}
use Rattle.step_literals.specs.declared.fault.Flaw.TheVariants.{BadToken, UnendedString, BadEscape, NumberTooLong, NameTooLarge}
use Rattle.step_structures.specs.declared.fault.LeftOut.{LeftOut}
use Rattle.step_structures.specs.declared.fault.LeftOut.TheVariants.{UserDefined, Scope, Anchor, Reference, Signature, TooMany, TooLarge}
use Rattle.step_structures.specs.declared.fault.FaultKind.{FaultKind}
use Rattle.step_structures.specs.declared.fault.FaultKind.TheVariants as kinds

abbrev pub flaw_text : Flaw → List ℕ
flaw_text BadToken = codes "E1 BadToken"
flaw_text UnendedString = codes "E2 UnendedString"
flaw_text BadEscape = codes "E3 BadEscape"
flaw_text NumberTooLong = codes "E4 NumberTooLong"
flaw_text NameTooLarge = codes "E5 NameTooLarge"

abbrev pub left_out_text : LeftOut → List ℕ
left_out_text UserDefined = codes "E8 LeftOut UserDefined"
left_out_text Scope = codes "E8 LeftOut Scope"
left_out_text Anchor = codes "E8 LeftOut Anchor"
left_out_text Reference = codes "E8 LeftOut Reference"
left_out_text Signature = codes "E8 LeftOut Signature"
left_out_text TooMany = codes "E8 LeftOut TooMany"
left_out_text TooLarge = codes "E8 LeftOut TooLarge"

abbrev pub kind_text : FaultKind → List ℕ
kind_text (kinds.Token flaw) = flaw_text flaw
kind_text kinds.Expected = codes "E6 Expected"
kind_text kinds.DuplicateName = codes "E7 DuplicateName"
kind_text (kinds.LeftOut part) = left_out_text part
kind_text kinds.TooDeep = codes "E9 TooDeep"
kind_text kinds.HeaderFault = codes "E10 HeaderFault"
