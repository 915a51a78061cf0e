-- A keyword is told by its spelling.
use Rattle.std.proofs.Common.{◌≡◌, Bool, true, false, Some, refl, sym, ap, ◌∙◌}
use Rattle.std.proofs.lemmas.Slice.Eq.{bytes_eq-Decides}
use Rattle.express_syntax.specs.declared.keyword.Keyword.{Keyword}
use Rattle.express_syntax.specs.declared.keyword.Keyword.TheVariants as keywords
use Rattle.express_syntax.specs.Keywords.{keyword_text, keyword_at}
use Rattle.express_syntax.specs.steps.Predict.{same_keyword}

found : (k : Keyword) → keyword_at (keyword_text k) ≡ Some k
found keywords.Abstract = refl
found keywords.And = refl
found keywords.Array = refl
found keywords.Bag = refl
found keywords.BasedOn = refl
found keywords.Binary = refl
found keywords.Boolean = refl
found keywords.Derive = refl
found keywords.EndEntity = refl
found keywords.EndSchema = refl
found keywords.EndType = refl
found keywords.Entity = refl
found keywords.Enumeration = refl
found keywords.Exists = refl
found keywords.Extensible = refl
found keywords.False = refl
found keywords.Fixed = refl
found keywords.For = refl
found keywords.GenericEntity = refl
found keywords.Hiindex = refl
found keywords.In = refl
found keywords.Integer = refl
found keywords.Inverse = refl
found keywords.List = refl
found keywords.Logical = refl
found keywords.Loindex = refl
found keywords.Not = refl
found keywords.Number = refl
found keywords.Nvl = refl
found keywords.Of = refl
found keywords.Optional = refl
found keywords.Or = refl
found keywords.Query = refl
found keywords.Real = refl
found keywords.Reference = refl
found keywords.Renamed = refl
found keywords.Schema = refl
found keywords.Select = refl
found keywords.SelfWord = refl
found keywords.Set = refl
found keywords.Sizeof = refl
found keywords.String = refl
found keywords.Subtype = refl
found keywords.Supertype = refl
found keywords.True = refl
found keywords.Type = refl
found keywords.Typeof = refl
found keywords.Unique = refl
found keywords.Unknown = refl
found keywords.Use = refl
found keywords.Where = refl
found keywords.Xor = refl

some_keyword : (j k : Keyword) → Some j ≡ Some k → j ≡ k
some_keyword j k e = cc

same_text : (j k : Keyword) → keyword_text j ≡ keyword_text k → j ≡ k
same_text j k e = some_keyword j k (sym (found j) ∙ ap keyword_at e ∙ found k)

pub one_keyword : (j k : Keyword) → same_keyword j k ≡ true → j ≡ k
one_keyword j k e = same_text j k ((bytes_eq-Decides (keyword_text j) (keyword_text k)).0 e)

pub other_keyword : (k end : Keyword) → (k ≡ end → ⊥) → same_keyword k end ≡ false
other_keyword k end f = by (same_keyword k end) refl
  where
    by : (b : Bool) → same_keyword k end ≡ b → same_keyword k end ≡ false
    by true e = absurd (f (one_keyword k end e))
    by false e = e
