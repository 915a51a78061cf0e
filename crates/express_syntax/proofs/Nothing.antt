-- Words that the parser doesn't read to their end are those of no expression.
use Rattle.std.proofs.Common.{◌≡◌, ℕ, suc, Bool, true, false, List, [], ◌∷◌, ◌++◌, length, Option, None, Some, sym, ap, ◌∙◌, subst, arith, append-nil}
use Rattle.express_syntax.specs.Words.{Word}
use Rattle.express_syntax.specs.Trees.{Tree, words}
use Rattle.express_syntax.specs.Grammar.{expression, FitsLevel, IsNone}
use Rattle.express_syntax.proofs.Parser.{parser}
use Rattle.express_syntax.proofs.Parsed.{reads}

abbrev is_whole : Option (Tree × List Word) → Bool
is_whole None = false
is_whole (Some (x, [])) = true
is_whole (Some (x, w ∷ ws)) = false

pub none_parsed : (n : ℕ) (ws : List Word) → is_whole ((parser (suc (length ws))).at expression ws) ≡ false
    → IsNone n ws
none_parsed n ws refused x h =
    let long : length ws ≡ length (words x) = ap length h.spelled in
    let e : is_whole ((parser (suc (length ws))).at expression (words x ++ [])) ≡ true =
    ap is_whole (reads x n expression [] (suc (length ws)) h.fits tt (omega arith)) in
    let d : ws ≡ words x ++ [] = h.spelled ∙ sym (append-nil (words x)) in
    let f : true ≡ false = sym e ∙ sym (ap (λ v. is_whole ((parser (suc (length ws))).at expression v)) d) ∙ refused in
    cc

-- nor are those whose one tree doesn't fit
pub none_fits : (n : ℕ) (ws : List Word) (y : Tree) → (parser (suc (length ws))).at expression ws ≡ Some (y, [])
    → (FitsLevel n expression y → ⊥) → IsNone n ws
none_fits n ws y read unfit x h =
    let long : length ws ≡ length (words x) = ap length h.spelled in
    let d : ws ≡ words x ++ [] = h.spelled ∙ sym (append-nil (words x)) in
    let e : ◌≡◌ {A = Option (Tree × List Word)} (Some (x, [])) (Some (y, [])) =
    sym (reads x n expression [] (suc (length ws)) h.fits tt (omega arith))
    ∙ sym (ap ((parser (suc (length ws))).at expression) d) ∙ read in
    let f : Option (Tree × List Word) → Tree = elim [ None ↦ y | Some p ↦ p.0 ] in
    let P : Tree → Type 0 = FitsLevel n expression in
    unfit (subst P (ap f e) h.fits)
