-- Keywords and their spellings.
use Rattle.std.proofs.Common.{◌≡◌, ℕ, Bool, true, false, List, [], ◌∷◌, Some, refl, sym, ap, ◌∙◌, if◌then◌else◌}
use Rattle.std.specs.Str.{bytes_eq}
use Rattle.std.proofs.lemmas.Slice.Eq.{bytes_eq-Decides}
use Rattle.express_syntax.specs.declared.keyword.Keyword.{Keyword}
use Rattle.express_syntax.specs.Keywords.{keyword_text, every_keyword, keyword_among, keyword_at}

spelt_first : (j k : Keyword) (ks : List Keyword) (word : List ℕ) (b : Bool) → bytes_eq (keyword_text j) word ≡ b
    → (keyword_among ks word ≡ Some k → word ≡ keyword_text k) → (if b then Some j else keyword_among ks word) ≡ Some k
    → word ≡ keyword_text k
spelt_first j k ks word true d later h = let e : j ≡ k = cc in sym ((bytes_eq-Decides (keyword_text j) word).0 d)
    ∙ ap keyword_text e
spelt_first j k ks word false d later h = later h

spelt_among : (ks : List Keyword) (word : List ℕ) (k : Keyword) → keyword_among ks word ≡ Some k → word ≡ keyword_text k
spelt_among [] word k e = absurd (cc)
spelt_among (j ∷ ks) word k e = spelt_first j k ks word (bytes_eq (keyword_text j) word) refl
    (λ h. spelt_among ks word k h) e

pub keywords_are_spelt : (word : List ℕ) (k : Keyword) → keyword_at word ≡ Some k → word ≡ keyword_text k
keywords_are_spelt word k e = spelt_among every_keyword word k e
