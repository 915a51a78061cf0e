-- Attributes, the rules of clauses and entities are told by their words.
use Rattle.std.proofs.Common.{◌≡◌, ℕ, ◌+◌, ◌≤◌, List, [], ◌∷◌, ◌++◌, Option, None, Some, map, refl, sym, ap, ◌∙◌, subst, append_assoc, arith}
use Rattle.express_lexer.specs.declared.marks.Mark.{Mark}
use Rattle.express_lexer.specs.declared.marks.Mark.TheVariants as marks
use Rattle.express_syntax.specs.declared.keyword.Keyword.{Keyword}
use Rattle.express_syntax.specs.declared.keyword.Keyword.TheVariants as keywords
use Rattle.express_syntax.specs.Words.{Word, keyword, name, mark}
use Rattle.express_syntax.specs.Grammar.{depth_limit}
use Rattle.express_syntax.specs.Schemas.{Body, Rule, Supertype, unsaid, bare, of_one, of_one_of, of_other, Attribute, own, redeclared, Explicit, Derived, Inverse, Unique, Entity}
use Rattle.express_syntax.specs.WrittenSchemas.{concatenated, said, with_commas, words_of_body, words_of_label, words_of_rule, words_of_clause, words_of_data_type, words_of_supertype, words_of_subtype, words_of_attribute, words_of_explicit, words_of_derived, words_of_collection, words_of_holder, words_of_inverse, words_of_unique, words_of_head, words_of_entity}
use Rattle.express_syntax.specs.Profile.{Maybe, IsFilled, FitsBody, Begins, BeginsRule, FitsRules, FitsExplicit, FitsDerived, FitsInverse, FitsUnique, FitsEntity}
use Rattle.express_syntax.specs.steps.Predict.{semicolon, assignment}
use Rattle.express_syntax.proofs.Apart.{tail_is, same_name, regrouped, Headed, said_once, each_once, clause_once}
use Rattle.express_syntax.proofs.UniqueRuns.{body_once, names_once, supertype_once, IsBehind}
use Rattle.express_syntax.proofs.UniqueDataTypes.{kind_once, optional_once, collection_once}

-- behind a name a rule without a label has no colon
unlabelled : (end : Keyword) (ws : List Word) (n : List ℕ) (u v : List Word) → Begins end ws → ws
    ++ mark marks.Semicolon ∷ u ≡ name n ∷ mark marks.Colon ∷ v → ⊥
unlabelled end [] n u v f e = cc
unlabelled end (name m ∷ []) n u v f e = cc
unlabelled end (name m ∷ mark marks.Colon ∷ ws) n u v f e = f
unlabelled end (name m ∷ w ∷ ws) n u v f e = cc
unlabelled end (w ∷ ws) n u v f e = cc

labelled_once : (end : Keyword) (l m : Option (List ℕ)) (b c : Body) (u v : List Word) → FitsBody depth_limit b
    → FitsBody depth_limit c → (l ≡ None → Begins end (words_of_body b)) → (m ≡ None → Begins end (words_of_body c))
    → words_of_label l ++ (words_of_body b ++ mark marks.Semicolon ∷ u) ≡ words_of_label m
    ++ (words_of_body c ++ mark marks.Semicolon ∷ v) → (l ≡ m) × (b ≡ c) × (u ≡ v)
labelled_once end None None b c u v f g i k e = let r = body_once b c u v f g e in (refl, r.0, r.1)
labelled_once end None (Some m) b c u v f g i k e =
    absurd (unlabelled end (words_of_body b) m u (words_of_body c ++ mark marks.Semicolon ∷ v) (i refl) e)
labelled_once end (Some l) None b c u v f g i k e =
    absurd (unlabelled end (words_of_body c) l v (words_of_body b ++ mark marks.Semicolon ∷ u) (k refl) (sym e))
labelled_once end (Some l) (Some m) b c u v f g i k e =
    let r = body_once b c u v f g (tail_is (tail_is e)) in (
      ap Some (same_name l m (mark marks.Colon ∷ (words_of_body b ++ mark marks.Semicolon ∷ u)) (mark marks.Colon
          ∷ (words_of_body c ++ mark marks.Semicolon ∷ v)) e),
      r.0,
      r.1,
    )

abbrev FitsRule : Keyword → Rule → Type 0
FitsRule end r = FitsBody depth_limit r.body × BeginsRule end r

rule_once : (end : Keyword) (r s : Rule) (u v : List Word) → FitsRule end r → FitsRule end s → words_of_rule r
    ++ u ≡ words_of_rule s ++ v → (r ≡ s) × (u ≡ v)
rule_once end r s u v f g e =
    let last = mark marks.Semicolon ∷ [] in
    let p = labelled_once end r.label s.label r.body s.body u v f.0 g.0 f.1 g.1
    (regrouped (words_of_label r.label) (words_of_body r.body) (last ++ u) (words_of_label s.label)
    (words_of_body s.body) (last ++ v)
    (regrouped (words_of_label r.label ++ words_of_body r.body) last u (words_of_label s.label ++ words_of_body s.body)
    last v e)) in
    ((λ i. record { label = p.0 i; body = p.1 i }), p.2)

-- the word that ends rules begins none
begins_other : (end : Keyword) (ws u v : List Word) → Begins end ws → ws ++ mark marks.Semicolon ∷ u ≡ keyword end ∷ v
    → ⊥
begins_other end [] u v f e = cc
begins_other end (keyword k ∷ ws) u v f e = let same : k ≡ end = cc in f same
begins_other end (w ∷ ws) u v f e = cc

labelled_not_end : (end : Keyword) (l : Option (List ℕ)) (b : Body) (u v : List Word)
    → (l ≡ None → Begins end (words_of_body b)) → words_of_label l ++ (words_of_body b ++ mark marks.Semicolon
    ∷ u) ≡ keyword end ∷ v → ⊥
labelled_not_end end None b u v i e = begins_other end (words_of_body b) u v (i refl) e
labelled_not_end end (Some n) b u v i e = cc

rule_not_end : (end : Keyword) (r : Rule) (u : List Word) → FitsRule end r → Headed end (words_of_rule r ++ u) → ⊥
rule_not_end end r u f h =
    let last = mark marks.Semicolon ∷ [] in
    labelled_not_end end r.label r.body u h.0 f.1
    (sym (append_assoc (words_of_label r.label ++ words_of_body r.body) last u ∙ append_assoc (words_of_label r.label)
    (words_of_body r.body) (last ++ u)) ∙ h.1)

-- rules or none, and the word that ends them
pub rules_once : (end : Keyword) → (keywords.Where ≡ end → ⊥) → (r s : Option (List Rule)) (u v : List Word)
    → Maybe (FitsRules depth_limit end) r → Maybe (FitsRules depth_limit end) s
    → words_of_clause keywords.Where words_of_rule r ++ keyword end ∷ u ≡ words_of_clause keywords.Where words_of_rule s
    ++ keyword end ∷ v → (r ≡ s) × (u ≡ v)
rules_once end other r s u v f g e =
    let p = clause_once words_of_rule (FitsRule end) (Headed end) (rule_once end) (rule_not_end end) keywords.Where
    (λ a h. other (let first = h.1 in cc)) r s (keyword end ∷ u) (keyword end ∷ v) f g (u, refl) (v, refl) e in
    (p.0, tail_is p.1)

attribute_once : (x y : Attribute) (u v : List Word) → words_of_attribute x ++ u ≡ words_of_attribute y ++ v → (x ≡ y)
    × (u ≡ v)
attribute_once (own n) (own m) u v e = (ap own (same_name n m u v e), tail_is e)
attribute_once (own n) (redeclared c m) u v e = absurd cc
attribute_once (redeclared c n) (own m) u v e = absurd cc
attribute_once (redeclared c n) (redeclared d m) u v e =
    let entity = tail_is (tail_is e) in
    let attribute = tail_is (tail_is entity) in
    let first = same_name c d (mark marks.Dot ∷ name n ∷ u) (mark marks.Dot ∷ name m ∷ v) entity in
    let second = same_name n m u v attribute in
    ((λ i. redeclared (first i) (second i)), tail_is attribute)

abbrev others : List Attribute → List Word
others xs = concatenated (map (λ us. mark marks.Comma ∷ us) (map words_of_attribute xs))

others_once : (m : Mark) → (m ≡ marks.Comma → ⊥) → (xs ys : List Attribute) (u v : List Word) → others xs ++ mark m
    ∷ u ≡ others ys ++ mark m ∷ v → (xs ≡ ys) × (u ≡ v)
others_once m f [] [] u v e = (refl, tail_is e)
others_once m f [] (y ∷ ys) u v e = absurd (f cc)
others_once m f (x ∷ xs) [] u v e = absurd (f cc)
others_once m f (x ∷ xs) (y ∷ ys) u v e =
    let first = attribute_once x y (others xs ++ mark m ∷ u) (others ys ++ mark m ∷ v)
    (regrouped (words_of_attribute x) (others xs) (mark m ∷ u) (words_of_attribute y) (others ys) (mark m ∷ v)
    (tail_is e)) in
    let more = others_once m f xs ys u v first.1 in
    ((λ i. first.0 i ∷ more.0 i), more.1)

-- attributes with commas between, and a mark that is none
attributes_once : (m : Mark) → (m ≡ marks.Comma → ⊥) → (xs ys : List Attribute) (u v : List Word) → IsFilled xs
    → IsFilled ys
    → with_commas (map words_of_attribute xs) ++ mark m ∷ u ≡ with_commas (map words_of_attribute ys) ++ mark m ∷ v
    → (xs ≡ ys) × (u ≡ v)
attributes_once m f [] ys u v a b e = absurd a
attributes_once m f (x ∷ xs) [] u v a b e = absurd b
attributes_once m f (x ∷ xs) (y ∷ ys) u v a b e =
    let first = attribute_once x y (others xs ++ mark m ∷ u) (others ys ++ mark m ∷ v)
    (regrouped (words_of_attribute x) (others xs) (mark m ∷ u) (words_of_attribute y) (others ys) (mark m ∷ v) e) in
    let more = others_once m f xs ys u v first.1 in
    ((λ i. first.0 i ∷ more.0 i), more.1)

colon_is_other : marks.Colon ≡ marks.Comma → ⊥
colon_is_other e = cc

semicolon_is_other : marks.Semicolon ≡ marks.Comma → ⊥
semicolon_is_other e = cc

explicit_once : (x y : Explicit) (u v : List Word) → FitsExplicit depth_limit x → FitsExplicit depth_limit y
    → words_of_explicit x ++ u ≡ words_of_explicit y ++ v → (x ≡ y) × (u ≡ v)
explicit_once x y u v f g e =
    let last = mark marks.Semicolon ∷ [] in
    let optional = said keywords.Optional x.optional in
    let optional' = said keywords.Optional y.optional in
    let data_type = words_of_data_type x.data_type in
    let data_type' = words_of_data_type y.data_type in
    let behind = optional ++ data_type ++ last in
    let behind' = optional' ++ data_type' ++ last in
    let a = attributes_once marks.Colon colon_is_other x.attributes y.attributes (behind ++ u) (behind' ++ v) f.0 g.0
    (regrouped (with_commas (map words_of_attribute x.attributes)) (mark marks.Colon ∷ behind) u
    (with_commas (map words_of_attribute y.attributes)) (mark marks.Colon ∷ behind') v e) in
    let o = optional_once x.optional y.optional x.data_type y.data_type (last ++ u) (last ++ v)
    (regrouped optional data_type (last ++ u) optional' data_type' (last ++ v) (regrouped (optional ++ data_type) last u
    (optional' ++ data_type') last v a.1)) in
    let k = kind_once 0 semicolon x.data_type y.data_type u v f.1 g.1 o.1 in
    ((λ i. record { attributes = a.0 i; optional = o.0 i; data_type = k.0 i }), k.1)

derived_once : (x y : Derived) (u v : List Word) → FitsDerived depth_limit x → FitsDerived depth_limit y
    → words_of_derived x ++ u ≡ words_of_derived y ++ v → (x ≡ y) × (u ≡ v)
derived_once x y u v f g e =
    let last = mark marks.Semicolon ∷ [] in
    let data_type = words_of_data_type x.data_type in
    let data_type' = words_of_data_type y.data_type in
    let body = words_of_body x.body in
    let body' = words_of_body y.body in
    let behind = data_type ++ mark marks.Assign ∷ (body ++ last) in
    let behind' = data_type' ++ mark marks.Assign ∷ (body' ++ last) in
    let a = attribute_once x.attribute y.attribute (mark marks.Colon ∷ behind ++ u) (mark marks.Colon ∷ behind' ++ v)
    (regrouped (words_of_attribute x.attribute) (mark marks.Colon ∷ behind) u (words_of_attribute y.attribute)
    (mark marks.Colon ∷ behind') v e) in
    let k = kind_once 0 assignment x.data_type y.data_type ((body ++ last) ++ u) ((body' ++ last) ++ v) f.0 g.0
    (regrouped data_type (mark marks.Assign ∷ (body ++ last)) u data_type' (mark marks.Assign ∷ (body' ++ last)) v
    (tail_is a.1)) in
    let b = body_once x.body y.body u v f.1 g.1 (regrouped body last u body' last v k.1) in
    ((λ i. record { attribute = a.0 i; data_type = k.0 i; body = b.0 i }), b.1)

-- the attribute that is inverted, with its entity if it is said
holder_once : (l m : Option (List ℕ)) (n p : List ℕ) (u v : List Word) → words_of_holder l ++ name n
    ∷ mark marks.Semicolon ∷ u ≡ words_of_holder m ++ name p ∷ mark marks.Semicolon ∷ v → (l ≡ m) × (n ≡ p) × (u ≡ v)
holder_once None None n p u v e = (
  refl,
  same_name n p (mark marks.Semicolon ∷ u) (mark marks.Semicolon ∷ v) e,
  tail_is (tail_is e),
)
holder_once None (Some m) n p u v e = absurd cc
holder_once (Some l) None n p u v e = absurd cc
holder_once (Some l) (Some m) n p u v e =
    let behind = tail_is (tail_is e) in (
      ap Some (same_name l m (mark marks.Dot ∷ name n ∷ mark marks.Semicolon ∷ u) (mark marks.Dot ∷ name p
          ∷ mark marks.Semicolon ∷ v) e),
      same_name n p (mark marks.Semicolon ∷ u) (mark marks.Semicolon ∷ v) behind,
      tail_is (tail_is behind),
    )

inverse_once : (x y : Inverse) (u v : List Word) → FitsInverse depth_limit x → FitsInverse depth_limit y
    → words_of_inverse x ++ u ≡ words_of_inverse y ++ v → (x ≡ y) × (u ≡ v)
inverse_once x y u v f g e =
    let holder = words_of_holder x.holder in
    let holder' = words_of_holder y.holder in
    let last = name x.inverted ∷ mark marks.Semicolon ∷ [] in
    let last' = name y.inverted ∷ mark marks.Semicolon ∷ [] in
    let collection = words_of_collection x.collection in
    let collection' = words_of_collection y.collection in
    let entity = name x.entity ∷ keyword keywords.For ∷ (holder ++ last) in
    let entity' = name y.entity ∷ keyword keywords.For ∷ (holder' ++ last') in
    let a = attribute_once x.attribute y.attribute (mark marks.Colon ∷ (collection ++ entity) ++ u) (mark marks.Colon
    ∷ (collection' ++ entity') ++ v)
    (regrouped (words_of_attribute x.attribute) (mark marks.Colon ∷ (collection ++ entity)) u
    (words_of_attribute y.attribute) (mark marks.Colon ∷ (collection' ++ entity')) v e) in
    let c = collection_once x.collection y.collection x.entity y.entity (keyword keywords.For ∷ (holder ++ last) ++ u)
    (keyword keywords.For ∷ (holder' ++ last') ++ v) f g
    (regrouped collection entity u collection' entity' v (tail_is a.1)) in
    let h = holder_once x.holder y.holder x.inverted y.inverted u v (regrouped holder last u holder' last' v
    (tail_is c.2)) in
    ((λ i. record { attribute = a.0 i; collection = c.0 i; entity = c.1 i; holder = h.0 i; inverted = h.1 i }), h.2)

-- behind a name an attribute without a label has no colon
unnamed : (xs : List Attribute) (n : List ℕ) (u v : List Word) → IsFilled xs → with_commas (map words_of_attribute xs)
    ++ mark marks.Semicolon ∷ u ≡ name n ∷ mark marks.Colon ∷ v → ⊥
unnamed [] n u v f e = f
unnamed (own m ∷ []) n u v f e = cc
unnamed (own m ∷ x ∷ xs) n u v f e = cc
unnamed (redeclared c m ∷ xs) n u v f e = cc

named_once : (l m : Option (List ℕ)) (xs ys : List Attribute) (u v : List Word) → IsFilled xs → IsFilled ys
    → words_of_label l ++ (with_commas (map words_of_attribute xs) ++ mark marks.Semicolon ∷ u) ≡ words_of_label m
    ++ (with_commas (map words_of_attribute ys) ++ mark marks.Semicolon ∷ v) → (l ≡ m) × (xs ≡ ys) × (u ≡ v)
named_once None None xs ys u v f g e = let r = attributes_once marks.Semicolon semicolon_is_other xs ys u v f g e in
    (refl, r.0, r.1)
named_once None (Some m) xs ys u v f g e =
    absurd (unnamed xs m u (with_commas (map words_of_attribute ys) ++ mark marks.Semicolon ∷ v) f e)
named_once (Some l) None xs ys u v f g e =
    absurd (unnamed ys l v (with_commas (map words_of_attribute xs) ++ mark marks.Semicolon ∷ u) g (sym e))
named_once (Some l) (Some m) xs ys u v f g e =
    let r = attributes_once marks.Semicolon semicolon_is_other xs ys u v f g (tail_is (tail_is e)) in
    let first : l ≡ m = cc in
    (ap Some first, r.0, r.1)

unique_once : (x y : Unique) (u v : List Word) → FitsUnique x → FitsUnique y → words_of_unique x
    ++ u ≡ words_of_unique y ++ v → (x ≡ y) × (u ≡ v)
unique_once x y u v f g e =
    let last = mark marks.Semicolon ∷ [] in
    let label = words_of_label x.label in
    let label' = words_of_label y.label in
    let attributes = with_commas (map words_of_attribute x.attributes) in
    let attributes' = with_commas (map words_of_attribute y.attributes) in
    let r = named_once x.label y.label x.attributes y.attributes u v f g
    (regrouped label attributes (last ++ u) label' attributes' (last ++ v)
    (regrouped (label ++ attributes) last u (label' ++ attributes') last v e)) in
    ((λ i. record { label = r.0 i; attributes = r.1 i }), r.2)

-- the words that begin clauses, in their order
abbrev clause_order : Word → ℕ
clause_order (keyword keywords.Derive) = 1
clause_order (keyword keywords.Inverse) = 2
clause_order (keyword keywords.Unique) = 3
clause_order (keyword keywords.Where) = 4
clause_order (keyword keywords.EndEntity) = 5
clause_order _ = 0

-- such a clause or one behind it begins
abbrev IsFrom : ℕ → List Word → Type 0
IsFrom n [] = ⊥
IsFrom n (w ∷ ws) = n ≤ clause_order w

from_before : (n : ℕ) (ws : List Word) → IsFrom (n + 1) ws → IsFrom n ws
from_before n [] h = h
from_before n (w ∷ ws) h = omega (arith, h)

from_clause : {A : Type 0} (k : Keyword) (write : A → List Word) (xs : Option (List A)) (n : ℕ) (ws : List Word)
    → n ≤ clause_order (keyword k) → IsFrom (n + 1) ws → IsFrom n (words_of_clause k write xs ++ ws)
from_clause k write None n ws f h = from_before n ws h
from_clause k write (Some xs) n ws f h = f

attribute_no_clause : (a : Attribute) (n : ℕ) (u : List Word) → IsFrom (n + 1) (words_of_attribute a ++ u) → ⊥
attribute_no_clause (own m) n u h = omega (arith, h)
attribute_no_clause (redeclared c m) n u h = omega (arith, h)

attributes_no_clause : (xs : List Attribute) (n : ℕ) (u : List Word) → IsFilled xs
    → IsFrom (n + 1) (with_commas (map words_of_attribute xs) ++ u) → ⊥
attributes_no_clause [] n u f h = f
attributes_no_clause (x ∷ xs) n u f h = attribute_no_clause x n (others xs ++ u)
    (subst (IsFrom (n + 1)) (append_assoc (words_of_attribute x) (others xs) u) h)

labelled_no_clause : (l : Option (List ℕ)) (xs : List Attribute) (n : ℕ) (u : List Word) → IsFilled xs
    → IsFrom (n + 1) (words_of_label l ++ (with_commas (map words_of_attribute xs) ++ u)) → ⊥
labelled_no_clause None xs n u f h = attributes_no_clause xs n u f h
labelled_no_clause (Some m) xs n u f h = omega (arith, h)

explicit_no_clause : (n : ℕ) (x : Explicit) (u : List Word) → FitsExplicit depth_limit x
    → IsFrom (n + 1) (words_of_explicit x ++ u) → ⊥
explicit_no_clause n x u f h =
    let behind = mark marks.Colon ∷ (said keywords.Optional x.optional ++ words_of_data_type x.data_type
    ++ mark marks.Semicolon ∷ []) in
    attributes_no_clause x.attributes n (behind ++ u) f.0
    (subst (IsFrom (n + 1)) (append_assoc (with_commas (map words_of_attribute x.attributes)) behind u) h)

derived_no_clause : (n : ℕ) (x : Derived) (u : List Word) → FitsDerived depth_limit x
    → IsFrom (n + 1) (words_of_derived x ++ u) → ⊥
derived_no_clause n x u f h =
    let behind = mark marks.Colon ∷ (words_of_data_type x.data_type ++ mark marks.Assign
    ∷ (words_of_body x.body ++ mark marks.Semicolon ∷ [])) in
    attribute_no_clause x.attribute n (behind ++ u)
    (subst (IsFrom (n + 1)) (append_assoc (words_of_attribute x.attribute) behind u) h)

inverse_no_clause : (n : ℕ) (x : Inverse) (u : List Word) → FitsInverse depth_limit x
    → IsFrom (n + 1) (words_of_inverse x ++ u) → ⊥
inverse_no_clause n x u f h =
    let behind = mark marks.Colon ∷ (words_of_collection x.collection ++ name x.entity ∷ keyword keywords.For
    ∷ (words_of_holder x.holder ++ name x.inverted ∷ mark marks.Semicolon ∷ [])) in
    attribute_no_clause x.attribute n (behind ++ u)
    (subst (IsFrom (n + 1)) (append_assoc (words_of_attribute x.attribute) behind u) h)

unique_no_clause : (n : ℕ) (x : Unique) (u : List Word) → FitsUnique x → IsFrom (n + 1) (words_of_unique x ++ u) → ⊥
unique_no_clause n x u f h =
    let label = words_of_label x.label in
    let attributes = with_commas (map words_of_attribute x.attributes) in
    let last = mark marks.Semicolon ∷ [] in
    labelled_no_clause x.label x.attributes n (last ++ u) f
    (subst (IsFrom (n + 1)) (append_assoc (label ++ attributes) last u ∙ append_assoc label attributes (last ++ u))
    h)

-- the clauses from each on
abbrev from_rules : Entity → List Word → List Word
from_rules e u = words_of_clause keywords.Where words_of_rule e.rules ++ keyword keywords.EndEntity
    ∷ mark marks.Semicolon ∷ u

abbrev from_uniques : Entity → List Word → List Word
from_uniques e u = words_of_clause keywords.Unique words_of_unique e.uniques ++ from_rules e u

abbrev from_inverses : Entity → List Word → List Word
from_inverses e u = words_of_clause keywords.Inverse words_of_inverse e.inverses ++ from_uniques e u

abbrev from_derived : Entity → List Word → List Word
from_derived e u = words_of_clause keywords.Derive words_of_derived e.derived ++ from_inverses e u

abbrev from_explicits : Entity → List Word → List Word
from_explicits e u = concatenated (map words_of_explicit e.explicits) ++ from_derived e u

entity_text : (e : Entity) (u : List Word) → words_of_entity e ++ u ≡ words_of_head e ++ from_explicits e u
entity_text e u =
    let head = words_of_head e in
    let explicit = concatenated (map words_of_explicit e.explicits) in
    let derive = words_of_clause keywords.Derive words_of_derived e.derived in
    let inverse = words_of_clause keywords.Inverse words_of_inverse e.inverses in
    let unique = words_of_clause keywords.Unique words_of_unique e.uniques in
    let rules = words_of_clause keywords.Where words_of_rule e.rules in
    append_assoc (head ++ explicit ++ derive ++ inverse ++ unique ++ rules) (keyword keywords.EndEntity
    ∷ mark marks.Semicolon ∷ []) u
    ∙ append_assoc (head ++ explicit ++ derive ++ inverse ++ unique) rules (keyword keywords.EndEntity
    ∷ mark marks.Semicolon ∷ u)
    ∙ append_assoc (head ++ explicit ++ derive ++ inverse) unique (from_rules e u)
    ∙ append_assoc (head ++ explicit ++ derive) inverse (from_uniques e u)
    ∙ append_assoc (head ++ explicit) derive (from_inverses e u)
    ∙ append_assoc head explicit (from_derived e u)

rules_from : (e : Entity) (u : List Word) → IsFrom 4 (from_rules e u)
rules_from e u = from_clause keywords.Where words_of_rule e.rules 4 (keyword keywords.EndEntity ∷ mark marks.Semicolon
    ∷ u) (omega arith) (omega arith)

uniques_from : (e : Entity) (u : List Word) → IsFrom 3 (from_uniques e u)
uniques_from e u = from_clause keywords.Unique words_of_unique e.uniques 3 (from_rules e u) (omega arith)
    (rules_from e u)

inverses_from : (e : Entity) (u : List Word) → IsFrom 2 (from_inverses e u)
inverses_from e u = from_clause keywords.Inverse words_of_inverse e.inverses 2 (from_uniques e u) (omega arith)
    (uniques_from e u)

derived_from : (e : Entity) (u : List Word) → IsFrom 1 (from_derived e u)
derived_from e u = from_clause keywords.Derive words_of_derived e.derived 1 (from_inverses e u) (omega arith)
    (inverses_from e u)

other_clause : (n : ℕ) → n + 1 ≤ n → ⊥
other_clause n h = omega (arith, h)

subtype_once : (s t : Option (List (List ℕ))) (u v : List Word) → words_of_subtype s ++ mark marks.Semicolon
    ∷ u ≡ words_of_subtype t ++ mark marks.Semicolon ∷ v → (s ≡ t) × (u ≡ v)
subtype_once None None u v e = (refl, tail_is e)
subtype_once None (Some names) u v e = absurd cc
subtype_once (Some names) None u v e = absurd cc
subtype_once (Some ns) (Some ms) u v e = let r = names_once ns ms (mark marks.Semicolon ∷ u) (mark marks.Semicolon ∷ v)
    (tail_is (tail_is e)) in (ap Some r.0, tail_is r.1)

behind_supertype : (t : Option (List (List ℕ))) (u : List Word) → IsBehind (words_of_subtype t ++ mark marks.Semicolon
    ∷ u)
behind_supertype None u = tt
behind_supertype (Some names) u = tt

not_abstract : (s : Supertype) (t : Option (List (List ℕ))) (u : List Word) → Headed keywords.Abstract
    (words_of_supertype s ++ (words_of_subtype t ++ mark marks.Semicolon ∷ u)) → ⊥
not_abstract unsaid None u h = let first = h.1 in cc
not_abstract unsaid (Some names) u h = let first = h.1 in cc
not_abstract bare t u h = let first = h.1 in cc
not_abstract (of_one n) t u h = let first = h.1 in cc
not_abstract (of_one_of names) t u h = let first = h.1 in cc
not_abstract (of_other r) t u h = let first = h.1 in cc

-- a head's name, what it says, and what stands behind it
record SameHead (x y : Entity) (u v : List Word) : Type 0 where
  name : x.name ≡ y.name
  is_abstract : x.is_abstract ≡ y.is_abstract
  supertype : x.supertype ≡ y.supertype
  subtype_of : x.subtype_of ≡ y.subtype_of
  behind : u ≡ v

head_once : (x y : Entity) (u v : List Word) → FitsEntity depth_limit x → FitsEntity depth_limit y → words_of_head x
    ++ u ≡ words_of_head y ++ v → SameHead x y u v
head_once x y u v f g e =
    let last = mark marks.Semicolon ∷ [] in
    let a = said keywords.Abstract x.is_abstract in
    let b = said keywords.Abstract y.is_abstract in
    let s = words_of_supertype x.supertype in
    let t = words_of_supertype y.supertype in
    let p = words_of_subtype x.subtype_of in
    let q = words_of_subtype y.subtype_of in
    let n = same_name x.name y.name ((a ++ s ++ p ++ last) ++ u) ((b ++ t ++ q ++ last) ++ v) (tail_is e) in
    let abstracts = said_once keywords.Abstract x.is_abstract y.is_abstract (s ++ (p ++ (last ++ u)))
    (t ++ (q ++ (last ++ v)))
    (not_abstract x.supertype x.subtype_of u) (not_abstract y.supertype y.subtype_of v)
    (regrouped a s (p ++ (last ++ u)) b t (q ++ (last ++ v))
    (regrouped (a ++ s) p (last ++ u) (b ++ t) q (last ++ v)
    (regrouped (a ++ s ++ p) last u (b ++ t ++ q) last v (tail_is (tail_is e))))) in
    let supers = supertype_once x.supertype y.supertype (p ++ (last ++ u)) (q ++ (last ++ v)) f.supertype g.supertype
    (behind_supertype x.subtype_of u) (behind_supertype y.subtype_of v) abstracts.1 in
    let subs = subtype_once x.subtype_of y.subtype_of u v supers.1 in
    record { name = n; is_abstract = abstracts.0; supertype = supers.0; subtype_of = subs.0; behind = subs.1 }

-- an entity
pub entity_once : (x y : Entity) (u v : List Word) → FitsEntity depth_limit x → FitsEntity depth_limit y
    → words_of_entity x ++ u ≡ words_of_entity y ++ v → (x ≡ y) × (u ≡ v)
entity_once x y u v f g e =
    let h = head_once x y (from_explicits x u) (from_explicits y v) f g (sym (entity_text x u) ∙ e ∙ entity_text y v) in
    let explicit = each_once words_of_explicit (FitsExplicit depth_limit) (IsFrom 1) explicit_once
    (explicit_no_clause 0) x.explicits y.explicits (from_derived x u) (from_derived y v) f.explicits g.explicits
    (derived_from x u) (derived_from y v) h.behind in
    let derive = clause_once words_of_derived (FitsDerived depth_limit) (IsFrom 2) derived_once (derived_no_clause 1)
    keywords.Derive (λ a. other_clause 1) x.derived y.derived (from_inverses x u) (from_inverses y v) f.derived
    g.derived (inverses_from x u) (inverses_from y v) explicit.1 in
    let inverse = clause_once words_of_inverse (FitsInverse depth_limit) (IsFrom 3) inverse_once (inverse_no_clause 2)
    keywords.Inverse (λ a. other_clause 2) x.inverses y.inverses (from_uniques x u) (from_uniques y v) f.inverses
    g.inverses (uniques_from x u) (uniques_from y v) derive.1 in
    let unique = clause_once words_of_unique FitsUnique (IsFrom 4) unique_once (unique_no_clause 3) keywords.Unique
    (λ a. other_clause 3) x.uniques y.uniques (from_rules x u) (from_rules y v) f.uniques g.uniques (rules_from x u)
    (rules_from y v) inverse.1 in
    let rule = rules_once keywords.EndEntity (λ p. cc) x.rules y.rules (mark marks.Semicolon ∷ u) (mark marks.Semicolon
    ∷ v) f.rules g.rules unique.1 in (
      (λ i. record {
        name = h.name i;
        is_abstract = h.is_abstract i;
        supertype = h.supertype i;
        subtype_of = h.subtype_of i;
        explicits = explicit.0 i;
        derived = derive.0 i;
        inverses = inverse.0 i;
        uniques = unique.0 i;
        rules = rule.0 i;
      }),
      tail_is rule.1,
    )
