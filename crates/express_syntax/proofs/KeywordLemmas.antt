-- Keywords found by their first letter.
use Rattle.std.proofs.Common.{◌≡◌, ℕ, ◌+◌, ◌<◌, ◌==◌, Bool, true, false, List, [], ◌∷◌, length, drop, get_or, map, filter, refl, sym, ap, ◌∙◌}
use Rattle.std.specs.Prelude.{Option, None, Some, ◌&&◌, slice_get, cond, if◌then◌else◌}
use Rattle.std.specs.Bool.{Decides}
use Rattle.std.specs.Char.{to_ascii_lowercase, to_ascii_uppercase}
use Rattle.std.specs.Str.{bytes_eq}
use Rattle.std.proofs.lemmas.Bool.Decides.{same_from_decides}
use Rattle.std.proofs.lemmas.List.{at_drop_more}
use Rattle.std.proofs.lemmas.Slice.Eq.{bytes_eq-Decides}
use Rattle.step_literals.specs.Words.{upper}
use Rattle.step_literals.proofs.CaseLemmas.{same_without_case}
use Rattle.express_syntax.specs.declared.keyword.Keyword.{Keyword}
use Rattle.express_syntax.specs.declared.keyword.Keyword.TheVariants as keywords
use Rattle.express_syntax.specs.Keywords.{keyword_text, keyword_among, keyword_at, every_keyword}
use Rattle.express_syntax.specs.Words.{Word, keyword}
use Rattle.express_syntax.specs.steps.Letters.{first_of, keywords_from}

in_capitals : (k : Keyword) → upper (keyword_text k) ≡ keyword_text k
in_capitals keywords.Abstract = refl
in_capitals keywords.And = refl
in_capitals keywords.Array = refl
in_capitals keywords.Bag = refl
in_capitals keywords.BasedOn = refl
in_capitals keywords.Binary = refl
in_capitals keywords.Boolean = refl
in_capitals keywords.Derive = refl
in_capitals keywords.EndEntity = refl
in_capitals keywords.EndSchema = refl
in_capitals keywords.EndType = refl
in_capitals keywords.Entity = refl
in_capitals keywords.Enumeration = refl
in_capitals keywords.Exists = refl
in_capitals keywords.Extensible = refl
in_capitals keywords.False = refl
in_capitals keywords.Fixed = refl
in_capitals keywords.For = refl
in_capitals keywords.GenericEntity = refl
in_capitals keywords.Hiindex = refl
in_capitals keywords.In = refl
in_capitals keywords.Integer = refl
in_capitals keywords.Inverse = refl
in_capitals keywords.List = refl
in_capitals keywords.Logical = refl
in_capitals keywords.Loindex = refl
in_capitals keywords.Not = refl
in_capitals keywords.Number = refl
in_capitals keywords.Nvl = refl
in_capitals keywords.Of = refl
in_capitals keywords.Optional = refl
in_capitals keywords.Or = refl
in_capitals keywords.Query = refl
in_capitals keywords.Real = refl
in_capitals keywords.Reference = refl
in_capitals keywords.Renamed = refl
in_capitals keywords.Schema = refl
in_capitals keywords.Select = refl
in_capitals keywords.SelfWord = refl
in_capitals keywords.Set = refl
in_capitals keywords.Sizeof = refl
in_capitals keywords.String = refl
in_capitals keywords.Subtype = refl
in_capitals keywords.Supertype = refl
in_capitals keywords.True = refl
in_capitals keywords.Type = refl
in_capitals keywords.Typeof = refl
in_capitals keywords.Unique = refl
in_capitals keywords.Unknown = refl
in_capitals keywords.Use = refl
in_capitals keywords.Where = refl
in_capitals keywords.Xor = refl

-- a word is a keyword where both are the same but for the case of letters
pub said : (k : Keyword) (text spelled : List ℕ) (r : Bool) → spelled ≡ keyword_text k
    → Decides r (map to_ascii_lowercase text ≡ map to_ascii_lowercase spelled) → bytes_eq (keyword_text k)
    (upper text) ≡ r
said k text spelled r is d =
    let same = same_without_case text spelled in
    let capitals : upper spelled ≡ keyword_text k = ap upper is ∙ in_capitals k in
    same_from_decides (bytes_eq (keyword_text k) (upper text)) r
    (bytes_eq-Decides (keyword_text k) (upper text))
    (λ t. sym capitals ∙ sym (same.0 (d.0 t)), λ e. d.1 (same.1 (sym e ∙ sym capitals)))

other_first : (t : List ℕ) (c : ℕ) (cs : List ℕ) → (first_of t == c) ≡ false → bytes_eq t (c ∷ cs) ≡ false
other_first [] c cs e = refl
other_first (x ∷ xs) c cs e = ap (λ b. b && bytes_eq xs cs) e

module _ (c : ℕ) (cs : List ℕ) where
  abbrev begins : Keyword → Bool
  begins k = first_of (keyword_text k) == c

  step : (k : Keyword) (ks : List Keyword) (t : Bool) → begins k ≡ t → keyword_among (filter begins ks)
      (c ∷ cs) ≡ keyword_among ks (c ∷ cs) → keyword_among (filter begins (k ∷ ks)) (c ∷ cs) ≡ keyword_among (k ∷ ks)
      (c ∷ cs)
  step k ks true e h = ap (λ t. keyword_among (cond t (k ∷ filter begins ks) (filter begins ks)) (c ∷ cs)) e
      ∙ ap (λ r. if bytes_eq (keyword_text k) (c ∷ cs) then Some k else r) h
  step k ks false e h =
      ap (λ t. keyword_among (cond t (k ∷ filter begins ks) (filter begins ks)) (c ∷ cs)) e ∙ h
      ∙ sym (ap (λ b. if b then Some k else keyword_among ks (c ∷ cs)) (other_first (keyword_text k) c cs e))

  among_filtered : (ks : List Keyword) → keyword_among (filter begins ks) (c ∷ cs) ≡ keyword_among ks (c ∷ cs)
  among_filtered [] = refl
  among_filtered (k ∷ ks) = step k ks (begins k) refl (among_filtered ks)

-- the keywords of another letter don't count
pub by_letter : (c : ℕ) (cs : List ℕ) → keyword_among (keywords_from c) (c ∷ cs) ≡ keyword_at (c ∷ cs)
by_letter c cs = among_filtered c cs every_keyword

abbrev byte_or : Option ℕ → ℕ → ℕ
byte_or None d = d
byte_or (Some b) d = b

pub by_first : (text : List ℕ) (b : ℕ) → Some b ≡ slice_get text 0
    → keyword_among (keywords_from (to_ascii_uppercase b)) (upper text) ≡ keyword_at (upper text)
by_first [] b e = absurd (cc)
by_first (x ∷ xs) b e =
    let same : b ≡ x = ap (λ o. byte_or o b) e in
    ap (λ y. keyword_among (keywords_from (to_ascii_uppercase y)) (to_ascii_uppercase x ∷ upper xs)) same
    ∙ by_letter (to_ascii_uppercase x) (upper xs)

abbrev keyword_or : Word → Keyword → Keyword
keyword_or (keyword k) d = k
keyword_or _ d = d

pub one_keyword : (a b : Keyword) → keyword a ≡ keyword b → a ≡ b
one_keyword a b e = ap (λ w. keyword_or w a) e

abbrev pub keyword_in : List Keyword → ℕ → Keyword
keyword_in ks i = get_or ks i keywords.Abstract

module _ (ks : List Keyword) (i : ℕ) (w : List ℕ) (lt : i < length ks)
    (left : keyword_among (drop i ks) w ≡ keyword_among ks w) where
  opened : keyword_among ks w ≡ keyword_among (keyword_in ks i ∷ drop (i + 1) ks) w
  opened = sym left ∙ at_drop_more (λ l. keyword_among l w) ks i keywords.Abstract lt

  pub found_here : bytes_eq (keyword_text (keyword_in ks i)) w ≡ true → Some (keyword_in ks i) ≡ keyword_among ks w
  found_here e = sym (opened ∙ ap (λ b. if b then Some (keyword_in ks i) else keyword_among (drop (i + 1) ks) w) e)

  pub not_here : bytes_eq (keyword_text (keyword_in ks i)) w ≡ false → keyword_among (drop (i + 1) ks) w ≡ keyword_among
      ks w
  not_here e = sym (opened ∙ ap (λ b. if b then Some (keyword_in ks i) else keyword_among (drop (i + 1) ks) w) e)
