-- The characters of encoded strings.
use Rattle.std.proofs.Common.{◌≡◌, ℕ, suc, ◌+◌, ◌*◌, ◌^◌, ◌≤◌, ◌<◌, true, List, [], ◌∷◌, length, take, drop, min, refl, sym, ap, ◌∙◌, ◌-◌, arith}
use mathlib.Core.Bool.{Bool-set}
use Rattle.std.proofs.Math.Logic.{∥∥₁_elim}
use Rattle.std.proofs.lemmas.List.{take_min, drop_min}
use Rattle.std.specs.List.{list_all}
use Rattle.std.specs.Str.Parse.{digits_value}
use Rattle.std.proofs.Math.Nat.{pow-suc, pow-le-pow_right}
use Rattle.step_literals.specs.Bytes.{is_hex, Each}
use Rattle.step_literals.specs.Items.{group_items}
use Rattle.step_literals.specs.declared.literal.items.Item.TheVariants.{Code}
use Rattle.step_literals.proofs.ItemLemmas.{group_step}
use Rattle.express_lexer.specs.Tokens.{Spells, encoded}
use Rattle.express_lexer.proofs.MeaningLemmas.{content_is}

-- a number of at most eight digits, and one digit more
pub digit_small : (i n d : ℕ) → n < 16 ^ i → d < 16 → n * 16 + d < 16 ^ (i + 1)
digit_small i n d hn hd = let e : i + 1 ≡ suc i = omega arith in rw (e, pow-suc) (omega (arith, hn, hd))

pub digit_fits : (i n d : ℕ) → i < 8 → n < 16 ^ i → d < 16 → n * 16 + d < 2 ^ 32
digit_fits i n d hi hn hd =
    let at_most : i ≤ 7 = omega (arith, hi) in
    let le : 16 ^ i ≤ 16 ^ 7 = pow-le-pow_right (omega arith) at_most in
    omega (arith, le, hn, hd)

-- a group, and what is left
pub group_given : (ds group rest : List ℕ) (n number : ℕ) → 0 < length ds → n ≡ min 8 (length ds) → group ≡ take n ds
    → rest ≡ drop n ds → number ≡ digits_value 16 group → group_items 8 ds ≡ Code number ∷ group_items 8 rest
group_given ds group rest n number some hn hg hr e =
    let g : group ≡ take 8 ds = hg ∙ ap (λ k. take k ds) hn ∙ take_min 8 ds in
    let r : rest ≡ drop 8 ds = hr ∙ ap (λ k. drop k ds) hn ∙ drop_min 8 ds in
    let value = sym (e ∙ ap (digits_value 16) g) in
    group_step 8 ds (omega arith) some ∙ (λ i. Code (value i) ∷ group_items 8 (sym r i))

pub none_left : (ds : List ℕ) → length ds ≡ 0 → group_items 8 ds ≡ []
none_left [] h = refl
none_left (d ∷ ds) h = absurd (omega (arith, h))

-- digits between two quotes
each_passes : (ds : List ℕ) → Each is_hex ds → list_all is_hex ds ≡ true
each_passes [] h = refl
each_passes (d ∷ ds) h = rw h.0 (each_passes ds h.1)

spelled_digits : (t : List ℕ) → Spells encoded t → list_all is_hex (take (length (drop 1 t) - 1) (drop 1 t)) ≡ true
spelled_digits t s = ap (list_all is_hex) (content_is 34 34 t s.0 s.3) ∙ each_passes s.0 s.1

pub digits_are_hex : (t : List ℕ) → ∥ Spells encoded t ∥₁
    → list_all is_hex (take (length (drop 1 t) - 1) (drop 1 t)) ≡ true
digits_are_hex t s = ∥∥₁_elim s (Bool-set _ _) (spelled_digits t)
