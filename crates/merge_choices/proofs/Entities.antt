-- Which names are those of entities.
use Rattle.std.specs.Prelude.{◌≡◌, ℕ, Bool, true, false, not, ◌||◌, cond, List, [], ◌∷◌, ◌++◌, map, find, flat_map, Some, None, is_some, unwrap_or, codes, bytes_eq}
use Rattle.std.specs.List.{list_any, filter}
use Rattle.std.proofs.Common.{refl, sym, ap, ap₂, ◌∙◌}
use Rattle.std.proofs.lemmas.Bool.{false≢true}
use Rattle.std.proofs.lemmas.Slice.Eq.{bytes_eq-Decides}
use Rattle.std.proofs.lemmas.List.Folds.{list_any-append}
use Rattle.step_literals.specs.Words.{upper}
use Rattle.express_syntax.specs.Schemas.{Schema, Declaration, type, entity, skipped, Entity}
use Rattle.schema_semantics.specs.Names.{Name, IsEntity, declaration_of, entities_of}
use Rattle.conformance.specs.ParameterFits.{entity_names, is_listed, is_entity}
use Rattle.conformance.specs.Choices.{ChosenNames, usual, given, chosen_names, names_by, present, preset, unknown_name}
use Rattle.conformance.specs.Presets.{usual_names, style_names, geometry_names}
use Rattle.merge_choices.specs.ChosenEntities.{chosen_by, has_name, is_chosen_name, is_preset}

abbrev pub names_of_entities : List Declaration → List Name
names_of_entities ds = map (λ (e : Entity). e.name) (entities_of ds)

-- a test of each declaration
pub each-named : (n : Name) (ds : List Declaration) → list_any (has_name n) ds ≡ is_listed n (names_of_entities ds)
each-named n [] = refl
each-named n (type t ∷ ds) = each-named n ds
each-named n (entity e ∷ ds) = ap (λ b. bytes_eq n e.name || b) (each-named n ds)
each-named n (skipped p ∷ ds) = each-named n ds

among-first : (n m : Name) (b : Bool) → m ≡ n → (bytes_eq n m || b) ≡ true
among-first n m b e = ap (λ c. c || b) ((bytes_eq-Decides n m).1 (sym e))

among-more : (b c : Bool) → c ≡ true → (b || c) ≡ true
among-more true c h = refl
among-more false c h = h

-- what a name stands for is an entity of that name
pub entity-there : (n : Name) (x : Entity) (ds : List Declaration) → declaration_of ds n ≡ Some (entity x)
    → is_listed n (names_of_entities ds) ≡ true
entity-there n x [] h = absurd (cc)
entity-there n x (type t ∷ ds) h = by (bytes_eq t.name n) h (entity-there n x ds)
  where
    by : (b : Bool) → cond b (Some (type t)) (declaration_of ds n) ≡ Some (entity x)
        → (declaration_of ds n ≡ Some (entity x) → is_listed n (names_of_entities ds) ≡ true)
        → is_listed n (names_of_entities ds) ≡ true
    by true e more = absurd (cc)
    by false e more = more e
entity-there n x (entity e ∷ ds) h = by (bytes_eq e.name n) refl h (entity-there n x ds)
  where
    by : (b : Bool) → bytes_eq e.name n ≡ b → cond b (Some (entity e)) (declaration_of ds n) ≡ Some (entity x)
        → (declaration_of ds n ≡ Some (entity x) → is_listed n (names_of_entities ds) ≡ true)
        → is_listed n (names_of_entities (entity e ∷ ds)) ≡ true
    by true d k more = among-first n e.name (is_listed n (names_of_entities ds)) ((bytes_eq-Decides e.name n).0 d)
    by false d k more = among-more (bytes_eq n e.name) (is_listed n (names_of_entities ds)) (more k)
entity-there n x (skipped p ∷ ds) h = entity-there n x ds h

-- what passes the test is among those that pass it where it is among all
pub among-kept : (p : Name → Bool) (n : Name) (xs : List Name) → p n ≡ true → is_listed n (filter p xs) ≡ is_listed n xs
among-kept p n [] h = refl
among-kept p n (x ∷ xs) h = by (p x) refl (bytes_eq n x) refl (among-kept p n xs h)
  where
    by : (b : Bool) → p x ≡ b → (c : Bool) → bytes_eq n x ≡ c → is_listed n (filter p xs) ≡ is_listed n xs
        → is_listed n (cond b (x ∷ filter p xs) (filter p xs)) ≡ (bytes_eq n x || is_listed n xs)
    by true k c d more = ap (λ r. bytes_eq n x || r) more
    by false k true d more = absurd (false≢true (sym k ∙ ap p (sym ((bytes_eq-Decides n x).0 d)) ∙ h))
    by false k false d more = more ∙ sym (ap (λ r. r || is_listed n xs) d)

listed-both : (n : Name) (xs ys : List Name) → is_listed n (xs ++ ys) ≡ (is_listed n xs || is_listed n ys)
listed-both n xs ys = list_any-append (bytes_eq n) xs ys

or-false : (b : Bool) → b ≡ (b || false)
or-false true = refl
or-false false = refl

kept-of : (s : Schema) (n : Name) → IsEntity s n → (xs : List Name) → is_listed n xs ≡ is_listed n (present s xs)
kept-of s n (x, at) xs = sym (among-kept (is_entity s) n xs (entity-there n x s.declarations at))

-- a word chooses an entity of the schema if it is among the names by the word
one-word : (s : Schema) (n : Name) → IsEntity s n → (w : List ℕ) → chosen_by n w ≡ is_listed n (names_by s w)
one-word s n is w =
    by (bytes_eq w (codes "@POINTS")) (bytes_eq w (codes "@STYLES")) (bytes_eq w (codes "@GEOMETRY"))
    (bytes_eq w (codes "@ALL"))
  where
    by : (a b c d : Bool)
        → cond a (is_listed n usual_names) (cond b (is_listed n style_names)
        (cond c (is_listed n usual_names || is_listed n geometry_names) (cond d true (bytes_eq n w))))
        ≡ is_listed n (unwrap_or (cond a (Some (present s usual_names)) (cond b (Some (present s style_names))
        (cond c (Some (present s (usual_names ++ geometry_names))) (cond d (Some (entity_names s)) None)))) (w ∷ []))
    by true b c d = kept-of s n is usual_names
    by false true c d = kept-of s n is style_names
    by false false true d = sym (listed-both n usual_names geometry_names)
        ∙ kept-of s n is (usual_names ++ geometry_names)
    by false false false true = sym (entity-there n is.0 s.declarations is.1)
    by false false false false = or-false (bytes_eq n w)

each-word : (s : Schema) (n : Name) → IsEntity s n → (ws : List (List ℕ))
    → list_any (chosen_by n) ws ≡ is_listed n (flat_map (names_by s) ws)
each-word s n is [] = refl
each-word s n is (w ∷ ws) = ap₂ (λ b c. b || c) (one-word s n is w) (each-word s n is ws)
    ∙ sym (listed-both n (names_by s w) (flat_map (names_by s) ws))

-- of an entity the names that the schema lacks say nothing
pub chosen-ones : (s : Schema) (c : ChosenNames) (n : Name) → IsEntity s n
    → is_chosen_name c n ≡ is_listed n (chosen_names s c)
chosen-ones s usual n is = kept-of s n is usual_names
chosen-ones s (given words) n is = each-word s n is (map upper words)

-- a word is a preset in each schema or in none
preset-known : (s : Schema) (w : List ℕ) → is_preset w ≡ is_some (preset s w)
preset-known s w = by (bytes_eq w (codes "@POINTS")) (bytes_eq w (codes "@STYLES"))
    (bytes_eq w (codes "@GEOMETRY")) (bytes_eq w (codes "@ALL")) _ _ _ _
  where
    by : (a b c d : Bool) (p q r t : List Name) → (a || (b || (c || d)))
        ≡ is_some (cond a (Some p) (cond b (Some q) (cond c (Some r) (cond d (Some t) None))))
    by true b c d p q r t = refl
    by false true c d p q r t = refl
    by false false true d p q r t = refl
    by false false false true p q r t = refl
    by false false false false p q r t = refl

-- the first word that is unknown
pub unknown-is : (s : Schema) (words : List (List ℕ))
    → find (λ n. not (is_preset n || is_entity s n)) (map upper words) ≡ unknown_name s (given words)
unknown-is s words = λ i. find (λ n. not (preset-known s n i || is_entity s n)) (map upper words)
