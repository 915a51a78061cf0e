-- References that the normal text has as they are spelt.
use Rattle.std.proofs.Common.{◌≡◌, ◌<◌, ◌==◌, ◌^◌, ℕ, Bool, true, false, not, List, [], ◌∷◌, length, get_or, sym, ◌∙◌, ap, subst, arith}
use Rattle.std.specs.Char.{digit_value}
use Rattle.std.specs.Str.Parse.{digits_value, AllDigits}
use Rattle.std.proofs.lemmas.Bool.Decides.{nat_tests}
use Rattle.std.proofs.lemmas.Fmt.{decimal-digits_value}
use Rattle.std.proofs.lemmas.Str.Parse.{numerals_by_value, tells_digits}
use Rattle.step_literals.specs.Bytes.{is_digit, Each}
use Rattle.step_literals.specs.Tokens.{Spells}
use Rattle.step_literals.specs.Tokens as token_kinds
use Rattle.step_structures.specs.Normal.{plain_name}
use Rattle.step_records.specs.Cells.{name_of}

below_ten : (b : ℕ) → is_digit b ≡ true → digit_value b < 10
below_ten b h = grind (arith, nat_tests)

all_below_ten : (ds : List ℕ) → Each is_digit ds → AllDigits 10 ds
all_below_ten [] h = tt
all_below_ten (d ∷ ds) h = (below_ten d h.0, all_below_ten ds h.1)

pub reference_stays : (s : List ℕ) → Spells token_kinds.name s → name_of s < 2 ^ 64 → not (get_or s 1 0 == 48) ≡ true
    → plain_name (name_of s) ≡ s
reference_stays s h small e =
    let ds = h.0 in
    let is : s ≡ 35 ∷ ds = h.2 in
    let number : name_of s ≡ digits_value 10 ds = ap name_of is in
    let alone : get_or ds 0 0 ≡ 48 → length ds ≡ 1 = λ zero. absurd (clash (get_or s 1 0) (ap (λ l. get_or l 1 0) is
    ∙ zero) e) in
    let spelled = decimal-digits_value (numerals_by_value _ tells_digits) ds (all_below_ten ds h.1.1) h.1.0 alone
    (subst (λ n. n < 2 ^ 64) number small) in
    ap plain_name number ∙ ap (λ l. 35 ∷ l) spelled ∙ sym is
  where
    clash : (b : ℕ) → b ≡ 48 → not (b == 48) ≡ true → ⊥
    clash b z t = let bad : false ≡ true = ap (λ n. not (n == 48)) (sym z) ∙ t in absurd cc
