-- What is seen of a schema from its beginning, part by part.
use Rattle.std.specs.Prelude.{◌≡◌, ℕ, ◌+◌, ◌<◌, ◌≤◌, List, [], ◌∷◌, ◌++◌, map, flat_map, Option, None, Some, MatchOption, length, get_or, take}
use Rattle.std.proofs.Common.{refl, ap, sym, subst, ◌∙◌, arith}
use Rattle.std.proofs.lemmas.List.{append_assoc, append-nil, flat_map_more, length-map, length-take-le, take_all}
use Rattle.step_literals.specs.declared.literal.Word.{Word}
use Rattle.express_syntax.specs.ExpressionViews.{capitals}
use Rattle.express_syntax.specs.Schemas as trees
use Rattle.express_syntax.specs.Views.{names_of, attribute_of, attributes_of, explicit_of, derived_of, inverse_of, entity_of}
use Rattle.express_syntax.specs.declared.fault.NameFault.TheVariants.{DuplicateName}
use Rattle.express_syntax.specs.declared.tree.Attribute.{Attribute}
use Rattle.express_syntax.specs.declared.tree.Attribute.TheVariants.{Unqualified, Redeclared}
use Rattle.express_syntax.specs.declared.tree.Explicit.{Explicit}
use Rattle.express_syntax.specs.declared.tree.Derived.{Derived}
use Rattle.express_syntax.specs.declared.tree.Inverse.{Inverse}
use Rattle.express_syntax.specs.declared.tree.Entity.{Entity}
use Rattle.schema_semantics.specs.Names.{Name, own_names, explicit_names, derived_names, inverse_names, attribute_names}
use Rattle.schema_semantics.specs.Faults.{Declared, in_scope, declared_from, declared}
use Rattle.schema_names.proofs.Rows.{map-joined, take-more}
use Rattle.schema_names.proofs.Clauses.{clause-listed}
use Rattle.schema_faults.specs.steps.Shown.{IsShown}
use Rattle.schema_faults.specs.steps.Repeated.{IsSeen, Sees, IsFirstRepeated}
use Rattle.schema_faults.specs.steps.Parts.{word_in, own_in, explicit_in, derived_in, inverse_in, declared_in}
use Rattle.schema_faults.specs.declared.declared_names.Seen.{Seen}

-- one part, and then the one behind it
pub sees-on : (a b c : Seen) (ys zs : List Declared) → Sees a b ys → Sees b c zs → Sees a c (ys ++ zs)
sees-on a b c ys zs h k xs s = subst (IsSeen c) (append_assoc xs ys zs) (k (xs ++ ys) (h xs s))

-- items of a list, and the one behind them
pub sees-item : {A : Type 0} (f : A → List Declared) (xs : List A) (i : ℕ) (a b c : Seen) (x : A) → i < length xs
    → x ≡ get_or xs i x → Sees a b (flat_map f (take i xs)) → Sees b c (f x) → Sees a c (flat_map f (take (i + 1) xs))
sees-item f xs i a b c x lt at h k = subst (Sees a c) split (sees-on a b c (flat_map f (take i xs)) (f x) h k)
  where
    split : flat_map f (take i xs) ++ f x ≡ flat_map f (take (i + 1) xs)
    split = flat_map_more f [] (take i xs) x ∙ ap (flat_map f) (sym (take-more xs i x lt at))

-- all of a list
pub sees-whole : {A : Type 0} (F : List A → List Declared) (xs : List A) (i : ℕ) (a b : Seen) → length xs ≤ i
    → Sees a b (F (take i xs)) → Sees a b (F xs)
sees-whole F xs i a b all h = subst (λ ys. Sees a b (F ys)) (take_all i xs all) h

-- declarations, and the one behind them
declared-first : (n : ℕ) (d : trees.Declaration) (ds : List trees.Declaration)
    → declared_from n (d ∷ ds) ≡ declared_in n d ++ declared_from (n + 1) ds
declared-first n (trees.type t) ds = refl
declared-first n (trees.entity e) ds = refl
declared-first n (trees.skipped p) ds = refl

declared-last : (n m : ℕ) (ds : List trees.Declaration) (d : trees.Declaration) → m ≡ n + length ds
    → declared_from n (ds ++ d ∷ []) ≡ declared_from n ds ++ declared_in m d
declared-last n m [] d at =
    let same : n ≡ m = omega (arith, at) in
    declared-first n d [] ∙ append-nil (declared_in n d) ∙ ap (λ k. declared_in k d) same
declared-last n m (e ∷ ds) d at =
    declared-first n e (ds ++ d ∷ [])
    ∙ ap (λ ys. declared_in n e ++ ys) (declared-last (n + 1) m ds d (omega (arith, at)))
    ∙ sym (append_assoc (declared_in n e) (declared_from (n + 1) ds) (declared_in m d))
    ∙ ap (λ ys. ys ++ declared_in m d) (sym (declared-first n e ds))

pub sees-declaration : {A : Type 0} (v : A → trees.Declaration) (xs : List A) (i : ℕ) (a b c : Seen) (x : A)
    → i < length xs → x ≡ get_or xs i x → Sees a b (declared_from 1 (map v (take i xs)))
    → Sees b c (declared_in (i + 1) (v x)) → Sees a c (declared_from 1 (map v (take (i + 1) xs)))
sees-declaration v xs i a b c x lt at h k =
    subst (Sees a c) split
    (sees-on a b c (declared_from 1 (map v (take i xs))) (declared_in (i + 1) (v x)) h k)
  where
    place : i + 1 ≡ 1 + length (map v (take i xs))
    place = omega (arith, length-map (take i xs) v, length-take-le i xs, lt)

    split : declared_from 1 (map v (take i xs)) ++ declared_in (i + 1) (v x)
        ≡ declared_from 1 (map v (take (i + 1) xs))
    split =
        sym (declared-last 1 (i + 1) (map v (take i xs)) (v x) place)
        ∙ ap (declared_from 1) (sym (map-joined v (take i xs) (x ∷ [])))
        ∙ ap (λ ys. declared_from 1 (map v ys)) (sym (take-more xs i x lt at))

-- the first that is repeated is the name that is answered
pub duplicate-shown : (s : trees.Schema) (a b : Seen) → IsSeen a [] → Sees a b (declared s)
    → IsShown s DuplicateName b.duplicate
duplicate-shown s a b start h = shown b.duplicate (h [] start).first
  where
    shown : (o : Option Word) → IsFirstRepeated (declared s) o → IsShown s DuplicateName o
    shown None none = λ n (scope, first). none (scope, n) first
    shown (Some w) first = first

-- the names of one scope
pub words-are : (k : ℕ) (ws : List Word) → flat_map (word_in k) ws ≡ in_scope k (names_of ws)
words-are k [] = refl
words-are k (w ∷ ws) = ap (λ ds. (k, capitals w) ∷ ds) (words-are k ws)

own-first : (k : ℕ) (a : Attribute) (more : List trees.Attribute)
    → own_in k a ++ in_scope k (own_names more) ≡ in_scope k (own_names (attribute_of a ∷ more))
own-first k (Unqualified w) more = refl
own-first k (Redeclared e w) more = refl

pub attributes-are : (k : ℕ) (more : List Attribute)
    → flat_map (own_in k) more ≡ in_scope k (own_names (map attribute_of more))
attributes-are k [] = refl
attributes-are k (a ∷ more) =
    ap (λ ds. own_in k a ++ ds) (attributes-are k more) ∙ own-first k a (map attribute_of more)

explicits-are : (k : ℕ) (xs : List Explicit)
    → flat_map (explicit_in k) xs
    ≡ in_scope k (flat_map (λ (x : trees.Explicit). own_names x.attributes) (map explicit_of xs))
explicits-are k [] = refl
explicits-are k (x ∷ xs) =
    ap (λ ds. explicit_in k x ++ ds) (explicits-are k xs)
    ∙ sym (map-joined (λ (m : Name). (k, m)) (own_names (attributes_of x.attributes))
    (flat_map (λ (y : trees.Explicit). own_names y.attributes) (map explicit_of xs)))

derived-are : (k : ℕ) (xs : List Derived)
    → flat_map (derived_in k) xs
    ≡ in_scope k (own_names (map (λ (d : trees.Derived). d.attribute) (map derived_of xs)))
derived-are k [] = refl
derived-are k (x ∷ xs) =
    ap (λ ds. derived_in k x ++ ds) (derived-are k xs)
    ∙ own-first k x.attribute (map (λ (d : trees.Derived). d.attribute) (map derived_of xs))

inverses-are : (k : ℕ) (xs : List Inverse)
    → flat_map (inverse_in k) xs
    ≡ in_scope k (own_names (map (λ (i : trees.Inverse). i.attribute) (map inverse_of xs)))
inverses-are k [] = refl
inverses-are k (x ∷ xs) =
    ap (λ ds. inverse_in k x ++ ds) (inverses-are k xs)
    ∙ own-first k x.attribute (map (λ (i : trees.Inverse). i.attribute) (map inverse_of xs))

-- the attributes of an entity, clause by clause
pub sees-attributes : (k : ℕ) (e : Entity) (ds : List Derived) (is : List Inverse) (a b c d : Seen)
    → MatchOption e.derived (ds ≡ []) (λ v. ds ≡ v.items) → MatchOption e.inverses (is ≡ []) (λ v. is ≡ v.items)
    → Sees a b (flat_map (explicit_in k) e.explicits.items) → Sees b c (flat_map (derived_in k) ds)
    → Sees c d (flat_map (inverse_in k) is) → Sees a d (in_scope k (attribute_names (entity_of e)))
sees-attributes k e ds is a b c d derived inverses h1 h2 h3 =
    subst (Sees a d) names
    (sees-on a c d (explicits ++ derivations) inversions
    (sees-on a b c explicits derivations (subst (Sees a b) (explicits-are k e.explicits.items) h1)
    (subst (Sees b c) derivation h2)) (subst (Sees c d) inversion h3))
  where
    explicits : List Declared
    explicits = in_scope k (explicit_names (entity_of e))

    derivations : List Declared
    derivations = in_scope k (derived_names (entity_of e))

    inversions : List Declared
    inversions = in_scope k (inverse_names (entity_of e))

    derivation : flat_map (derived_in k) ds ≡ derivations
    derivation =
        derived-are k ds
        ∙ ap (λ ts. in_scope k (own_names (map (λ (t : trees.Derived). t.attribute) ts)))
        (clause-listed derived_of e.derived ds derived)

    inversion : flat_map (inverse_in k) is ≡ inversions
    inversion =
        inverses-are k is
        ∙ ap (λ ts. in_scope k (own_names (map (λ (t : trees.Inverse). t.attribute) ts)))
        (clause-listed inverse_of e.inverses is inverses)

    names : (explicits ++ derivations) ++ inversions ≡ in_scope k (attribute_names (entity_of e))
    names =
        ap (λ ns. ns ++ inversions)
        (sym (map-joined (λ (m : Name). (k, m)) (explicit_names (entity_of e)) (derived_names (entity_of e))))
        ∙ sym (map-joined (λ (m : Name). (k, m)) (explicit_names (entity_of e) ++ derived_names (entity_of e))
        (inverse_names (entity_of e)))
