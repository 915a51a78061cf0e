-- Bytes of a string that are characters by themselves feed a hasher as they stand.
use Rattle.std.proofs.Common.{◌≡◌, ℕ, ◌≤◌, Bool, true, false, List, [], ◌∷◌, ◌++◌, length, fold, refl, sym, ap, ◌∙◌, arith, Some, codes, nat_lt}
use Rattle.std.specs.Prelude.{◌==◌}
use Rattle.std.specs.Hash as fed
use Rattle.std.specs.List.{flat_map}
use Rattle.std.proofs.lemmas.Bool.Decides.{nat_tests}
use Rattle.step_literals.specs.Bytes.{is_plain}
use Rattle.step_literals.specs.Strings.{byte, clean, begins_with, is_high, piece_at}
use Rattle.step_literals.specs.Items.{items_of, pieces_of}
use Rattle.step_literals.specs.ItemKeys.{code_writes, item_writes, content_writes}
use Rattle.step_literals.proofs.CleanLemmas.{kept}
use Rattle.step_literals.proofs.DirectiveLemmas.{no_slash, plain_row}
use Rattle.step_literals.proofs.ItemLemmas.{pieces_step}

plain_low : (b : ℕ) → is_plain b ≡ true → 32 ≤ b
plain_low b h = grind (arith, nat_tests)

plain_high : (b : ℕ) → is_plain b ≡ true → is_high b ≡ false
plain_high b h = grind (arith, nat_tests)

plain_slash : (b : ℕ) → is_plain b ≡ true → no_slash b ≡ true
plain_slash b h = grind (arith, nat_tests)

plain_quote : (b : ℕ) (bs : List ℕ) → is_plain b ≡ true → begins_with (codes "''") (b ∷ bs) ≡ false
plain_quote b bs h = let q : (39 == b) ≡ false = grind (arith, nat_tests) in rw q refl

plain_small : (b : ℕ) → is_plain b ≡ true → nat_lt b 128 ≡ true
plain_small b h = grind (arith, nat_tests)

plain_piece : (b : ℕ) (bs : List ℕ) → is_plain b ≡ true → piece_at (b ∷ bs) ≡ Some (byte b)
plain_piece b bs h = plain_row b bs false false (plain_slash b h) (plain_quote b bs h) (plain_high b h)

code_byte : (b : ℕ) (t : Bool) → nat_lt b 128 ≡ t → t ≡ true → code_writes b ≡ fed.u8 b
code_byte b true h e = rw h refl
code_byte b false h e = absurd (cc)

-- one of them, and what follows it
plain_first : (b : ℕ) (bs : List ℕ) → is_plain b ≡ true → content_writes (b ∷ bs) ≡ fed.u8 b ++ content_writes bs
plain_first b bs h =
    let small = plain_small b h in
    ap (λ l. flat_map item_writes (items_of 1 l)) (ap pieces_of (kept b bs (plain_low b h))
    ∙ pieces_step (b ∷ clean bs) (byte b) (plain_piece b (clean bs) h))
    ∙ ap (λ ws. ws ++ content_writes bs) (code_byte b true small refl)

-- after a plain byte is fed, feeding the rest gives what feeding all gives
pub plain_fed : {S : Type 0} (write : S → List ℕ → S) (s t whole : S) (b : ℕ) (bs after : List ℕ) → is_plain b ≡ true
    → bs ≡ b ∷ after → t ≡ fold write s (fed.u8 b) → fold write s (content_writes bs) ≡ whole
    → fold write t (content_writes after) ≡ whole
plain_fed write s t whole b bs after h e feeds so_far =
    ap (λ r. fold write r (content_writes after)) feeds
    ∙ sym (ap (λ l. fold write s (content_writes l)) e ∙ ap (fold write s) (plain_first b after h)) ∙ so_far

pub none_left : {S : Type 0} (write : S → List ℕ → S) (s whole : S) (bs : List ℕ) → length bs ≡ 0
    → fold write s (content_writes bs) ≡ whole → s ≡ whole
none_left write s whole [] none so_far = so_far
none_left write s whole (b ∷ bs) none so_far = absurd (omega (arith, none))
