-- The words of an entity lead from its head through its clauses to its end.
use Rattle.std.proofs.Common.{◌≡◌, ℕ, Bool, true, false, List, [], ◌∷◌, ◌++◌, Option, None, Some, Ok, refl, map}
use Rattle.express_lexer.specs.declared.marks.Mark.TheVariants as marks
use Rattle.express_syntax.specs.declared.keyword.Keyword.{Keyword}
use Rattle.express_syntax.specs.declared.keyword.Keyword.TheVariants as keywords
use Rattle.express_syntax.specs.Words.{Word, keyword, name, mark}
use Rattle.express_syntax.specs.Texts.{Lookahead, token}
use Rattle.express_syntax.specs.Schemas.{Attribute, own, redeclared, Explicit, Derived, Collection, alone, in_set, in_bag, Inverse, Unique, Entity, Rule}
use Rattle.express_syntax.specs.WrittenSchemas.{concatenated, said, with_commas, words_of_body, words_of_label, words_of_rule, words_of_clause, words_of_some_bounds, words_of_data_type, words_of_supertype, words_of_subtype, words_of_attribute, words_of_explicit, words_of_derived, words_of_collection, words_of_holder, words_of_inverse, words_of_unique, words_of_head, words_of_entity}
use Rattle.express_syntax.specs.Profile.{Every, Maybe, IsFilled, FitsRules, FitsExplicit, FitsDerived, FitsCollection, FitsInverse, FitsUnique, FitsEntity}
use Rattle.express_syntax.specs.steps.Predict.{Symbol, Just, Say, Id, Declarations, Running, DataTypeThen, assignment, semicolon, BoundsOrOf, Rules, Head, Clause, explicits, derived, inverses, uniques, follows, Body, AnAttribute, Explicits, OptionalDataType, Inverted, Holder, Uniques, UniqueNamed, redeclared_symbols, next}
use Rattle.express_syntax.specs.steps.Predict as predict
use Rattle.express_syntax.proofs.Passing.{Goal, Led, step, regroup, wider, pass_mark, pass_say, pass_id}
use Rattle.express_syntax.proofs.PassingHeads.{pass_head}
use Rattle.express_syntax.proofs.PassingRules.{pass_body, pass_rules, pass_rules_end}
use Rattle.express_syntax.proofs.PassingDataTypes.{pass_data_type, pass_bounds_of}

-- an attribute behind SELF
pass_redeclared : (g : Goal) (e n : List ℕ) (ys : List Symbol) (ws : List Word) → Led g ys ws
    → Led g (redeclared_symbols ++ ys) (mark marks.Backslash ∷ name e ∷ mark marks.Dot ∷ name n ∷ ws)
pass_redeclared g e n ys ws h =
    pass_mark g marks.Backslash (Id ∷ Just marks.Dot ∷ Id ∷ ys) (name e ∷ mark marks.Dot ∷ name n ∷ ws)
    (pass_id g e (Just marks.Dot ∷ Id ∷ ys) (mark marks.Dot ∷ name n ∷ ws)
    (pass_mark g marks.Dot (Id ∷ ys) (name n ∷ ws) (pass_id g n ys ws h)))

pass_attribute : (g : Goal) (a : Attribute) (ys : List Symbol) (ws : List Word) → Led g ys ws → Led g (AnAttribute ∷ ys)
    (words_of_attribute a ++ ws)
pass_attribute g (own n) ys ws h = step g AnAttribute [] ys (name n) ws refl h
pass_attribute g (redeclared e n) ys ws h =
    step g AnAttribute redeclared_symbols ys (keyword keywords.SelfWord) (mark marks.Backslash ∷ name e ∷ mark marks.Dot
    ∷ name n ∷ ws) refl (pass_redeclared g e n ys ws h)

-- the attributes behind the first
abbrev more_attributes : List Attribute → List Word
more_attributes more = concatenated (map (λ us. mark marks.Comma ∷ us) (map words_of_attribute more))

pass_more : (g : Goal) (z : Symbol) (more : List Attribute) (ys : List Symbol) (ws : List Word)
    → next g.levels z (token (mark marks.Comma)) ≡ Ok (AnAttribute ∷ z ∷ [])
    → Led g (z ∷ ys) ws → Led g (z ∷ ys) (more_attributes more ++ ws)
pass_more g z [] ys ws e h = h
pass_more g z (a ∷ more) ys ws e h =
    let words = words_of_attribute a in
    let others = more_attributes more in
    regroup g (z ∷ ys) (mark marks.Comma ∷ words) others ws
    (step g z (AnAttribute ∷ z ∷ []) ys (mark marks.Comma) (words ++ (others ++ ws)) e
    (pass_attribute g a (z ∷ ys) (others ++ ws) (pass_more g z more ys ws e h)))

-- the first attribute of a clause, where a name and SELF leave the same to come
pass_first : (g : Goal) (c : Clause) (a : Attribute) (us ys : List Symbol) (ws : List Word)
    → ((n : List ℕ) → next g.levels (Body c) (token (name n)) ≡ Ok us)
    → next g.levels (Body c) (token (keyword keywords.SelfWord)) ≡ Ok (redeclared_symbols ++ us) → Led g (us ++ ys) ws
    → Led g (Body c ∷ ys) (words_of_attribute a ++ ws)
pass_first g c (own n) us ys ws named self h = step g (Body c) us ys (name n) ws (named n) h
pass_first g c (redeclared e n) us ys ws named self h =
    step g (Body c) (redeclared_symbols ++ us) ys (keyword keywords.SelfWord) (mark marks.Backslash ∷ name e
    ∷ mark marks.Dot ∷ name n ∷ ws) self (pass_redeclared g e n (us ++ ys) ws h)

-- a word that may be said
optional_kind_wider : (levels : ℕ) (w : Lookahead) (us : List Symbol) → next levels (DataTypeThen 0 semicolon) w ≡ Ok us
    → next levels OptionalDataType w ≡ Ok us
optional_kind_wider levels (token (keyword keywords.Optional)) us e = absurd cc
optional_kind_wider levels w us e = e

pass_optional_data_type : (g : Goal) (o : Bool) (ys : List Symbol) (ws : List Word)
    → Led g (DataTypeThen 0 semicolon ∷ ys) ws → Led g (OptionalDataType ∷ ys) (said keywords.Optional o ++ ws)
pass_optional_data_type g true ys ws h = step g OptionalDataType (DataTypeThen 0 semicolon ∷ []) ys
    (keyword keywords.Optional) ws refl h
pass_optional_data_type g false ys ws h = wider g (DataTypeThen 0 semicolon) OptionalDataType ys ws
    (optional_kind_wider g.levels) h

-- explicit attributes, and their kind
explicit_words : (g : Goal) (attributes : List Attribute) (x : Explicit) (ys : List Symbol) (ws : List Word)
    → IsFilled attributes → FitsExplicit g.levels x → Led g (Body explicits ∷ ys) ws
    → Led g (Body explicits ∷ ys) ((with_commas (map words_of_attribute attributes) ++ mark marks.Colon
    ∷ (said keywords.Optional x.optional ++ words_of_data_type x.data_type ++ mark marks.Semicolon ∷ [])) ++ ws)
explicit_words g [] x ys ws filled f h = absurd filled
explicit_words g (a ∷ more) x ys ws filled f h =
    let all = Body explicits ∷ ys in
    let first = words_of_attribute a in
    let others = more_attributes more in
    let optional = said keywords.Optional x.optional in
    let kind = words_of_data_type x.data_type in
    let last = optional ++ kind ++ mark marks.Semicolon ∷ [] in
    regroup g all (first ++ others) (mark marks.Colon ∷ last) ws
    (regroup g all first others (mark marks.Colon ∷ last ++ ws)
    (pass_first g explicits a (Explicits ∷ Body explicits ∷ []) ys (others ++ (mark marks.Colon ∷ last ++ ws))
    (λ n. refl) refl
    (pass_more g Explicits more all (mark marks.Colon ∷ last ++ ws) refl
    (step g Explicits (OptionalDataType ∷ []) all (mark marks.Colon) (last ++ ws) refl
    (regroup g (OptionalDataType ∷ all) (optional ++ kind) (mark marks.Semicolon ∷ []) ws
    (regroup g (OptionalDataType ∷ all) optional kind (mark marks.Semicolon ∷ ws)
    (pass_optional_data_type g x.optional all (kind ++ mark marks.Semicolon ∷ ws)
    (pass_data_type g x.data_type 0 semicolon all ws f.1 h))))))))

pass_explicit : (g : Goal) (ys : List Symbol) (x : Explicit) (ws : List Word) → FitsExplicit g.levels x
    → Led g (Body explicits ∷ ys) ws → Led g (Body explicits ∷ ys) (words_of_explicit x ++ ws)
pass_explicit g ys x ws f h = explicit_words g x.attributes x ys ws f.0 f h

pass_derived : (g : Goal) (ys : List Symbol) (x : Derived) (ws : List Word) → FitsDerived g.levels x
    → Led g (Body derived ∷ ys) ws → Led g (Body derived ∷ ys) (words_of_derived x ++ ws)
pass_derived g ys x ws f h =
    let all = Body derived ∷ ys in
    let run = Running predict.in_rule 0 [] false in
    let kind = words_of_data_type x.data_type in
    let body = words_of_body x.body in
    let last = body ++ mark marks.Semicolon ∷ [] in
    let behind = kind ++ mark marks.Assign ∷ last in
    regroup g all (words_of_attribute x.attribute) (mark marks.Colon ∷ behind) ws
    (pass_first g derived x.attribute (Just marks.Colon ∷ DataTypeThen 0 assignment ∷ run ∷ Body derived ∷ []) ys
    (mark marks.Colon ∷ behind ++ ws) (λ n. refl) refl
    (pass_mark g marks.Colon (DataTypeThen 0 assignment ∷ run ∷ all) (behind ++ ws)
    (regroup g (DataTypeThen 0 assignment ∷ run ∷ all) kind (mark marks.Assign ∷ last) ws
    (pass_data_type g x.data_type 0 assignment (run ∷ all) (last ++ ws) f.0
    (regroup g (run ∷ all) body (mark marks.Semicolon ∷ []) ws
    (pass_body g x.body all ws f.1 h))))))

-- the entity whose attribute is inverted, in a collection or alone
pass_collection : (g : Goal) (c : Collection) (n : List ℕ) (ys : List Symbol) (ws : List Word) → FitsCollection g.levels
    c → Led g ys ws → Led g (Inverted ∷ ys) (words_of_collection c ++ name n ∷ ws)
pass_collection g alone n ys ws f h = step g Inverted [] ys (name n) ws refl h
pass_collection g (in_set b) n ys ws f h =
    let last = name n ∷ ws in
    step g Inverted (BoundsOrOf 0 ∷ Id ∷ []) ys (keyword keywords.Set)
    ((words_of_some_bounds b ++ keyword keywords.Of ∷ []) ++ last) refl
    (regroup g (BoundsOrOf 0 ∷ Id ∷ ys) (words_of_some_bounds b) (keyword keywords.Of ∷ []) last
    (pass_bounds_of g b 0 (Id ∷ ys) last f (pass_id g n ys ws h)))
pass_collection g (in_bag b) n ys ws f h =
    let last = name n ∷ ws in
    step g Inverted (BoundsOrOf 0 ∷ Id ∷ []) ys (keyword keywords.Bag)
    ((words_of_some_bounds b ++ keyword keywords.Of ∷ []) ++ last) refl
    (regroup g (BoundsOrOf 0 ∷ Id ∷ ys) (words_of_some_bounds b) (keyword keywords.Of ∷ []) last
    (pass_bounds_of g b 0 (Id ∷ ys) last f (pass_id g n ys ws h)))

-- the attribute that is inverted, with its entity if it is said
pass_holder : (g : Goal) (holder : Option (List ℕ)) (n : List ℕ) (ys : List Symbol) (ws : List Word) → Led g ys ws
    → Led g (Id ∷ Holder ∷ ys) (words_of_holder holder ++ name n ∷ mark marks.Semicolon ∷ ws)
pass_holder g None n ys ws h = pass_id g n (Holder ∷ ys) (mark marks.Semicolon ∷ ws)
    (step g Holder [] ys (mark marks.Semicolon) ws refl h)
pass_holder g (Some m) n ys ws h =
    pass_id g m (Holder ∷ ys) (mark marks.Dot ∷ name n ∷ mark marks.Semicolon ∷ ws)
    (step g Holder (Id ∷ Just marks.Semicolon ∷ []) ys (mark marks.Dot) (name n ∷ mark marks.Semicolon ∷ ws) refl
    (pass_id g n (Just marks.Semicolon ∷ ys) (mark marks.Semicolon ∷ ws) (pass_mark g marks.Semicolon ys ws h)))

pass_inverse : (g : Goal) (ys : List Symbol) (x : Inverse) (ws : List Word) → FitsInverse g.levels x
    → Led g (Body inverses ∷ ys) ws → Led g (Body inverses ∷ ys) (words_of_inverse x ++ ws)
pass_inverse g ys x ws f h =
    let all = Body inverses ∷ ys in
    let named = Say keywords.For ∷ Id ∷ Holder ∷ all in
    let holder = words_of_holder x.holder in
    let last = holder ++ name x.inverted ∷ mark marks.Semicolon ∷ [] in
    let collection = words_of_collection x.collection in
    let behind = collection ++ name x.entity ∷ keyword keywords.For ∷ last in
    regroup g all (words_of_attribute x.attribute) (mark marks.Colon ∷ behind) ws
    (pass_first g inverses x.attribute (Just marks.Colon ∷ Inverted ∷ Say keywords.For ∷ Id ∷ Holder ∷ Body inverses
    ∷ []) ys (mark marks.Colon ∷ behind ++ ws) (λ n. refl) refl
    (pass_mark g marks.Colon (Inverted ∷ named) (behind ++ ws)
    (regroup g (Inverted ∷ named) collection (name x.entity ∷ keyword keywords.For ∷ last) ws
    (pass_collection g x.collection x.entity named (keyword keywords.For ∷ last ++ ws) f
    (pass_say g keywords.For (Id ∷ Holder ∷ all) (last ++ ws)
    (regroup g (Id ∷ Holder ∷ all) holder (name x.inverted ∷ mark marks.Semicolon ∷ []) ws
    (pass_holder g x.holder x.inverted all ws h)))))))

unique_named_wider : (levels : ℕ) (w : Lookahead) (us : List Symbol) → next levels Uniques w ≡ Ok us
    → next levels UniqueNamed w ≡ Ok us
unique_named_wider levels (token (mark marks.Colon)) us e = absurd cc
unique_named_wider levels w us e = e

-- the first attribute of a rule of UNIQUE without a label
first_unique : (g : Goal) (a : Attribute) (ys : List Symbol) (ws : List Word) → Led g (Uniques ∷ Body uniques ∷ ys) ws
    → Led g (Body uniques ∷ ys) (words_of_attribute a ++ ws)
first_unique g (own n) ys ws h = step g (Body uniques) (UniqueNamed ∷ Body uniques ∷ []) ys (name n) ws refl
    (wider g Uniques UniqueNamed (Body uniques ∷ ys) ws (unique_named_wider g.levels) h)
first_unique g (redeclared e n) ys ws h =
    step g (Body uniques) (redeclared_symbols ++ Uniques ∷ Body uniques ∷ []) ys (keyword keywords.SelfWord)
    (mark marks.Backslash ∷ name e ∷ mark marks.Dot ∷ name n ∷ ws) refl
    (pass_redeclared g e n (Uniques ∷ Body uniques ∷ ys) ws h)

unique_words : (g : Goal) (label : Option (List ℕ)) (attributes : List Attribute) (ys : List Symbol) (ws : List Word)
    → IsFilled attributes → Led g (Body uniques ∷ ys) ws
    → Led g (Body uniques ∷ ys) (words_of_label label ++ (with_commas (map words_of_attribute attributes)
    ++ mark marks.Semicolon ∷ ws))
unique_words g label [] ys ws filled h = absurd filled
unique_words g None (a ∷ more) ys ws filled h =
    let all = Body uniques ∷ ys in
    let others = more_attributes more in
    let last = mark marks.Semicolon ∷ ws in
    regroup g all (words_of_attribute a) others last
    (first_unique g a ys (others ++ last)
    (pass_more g Uniques more all last refl (step g Uniques [] all (mark marks.Semicolon) ws refl h)))
unique_words g (Some n) (a ∷ more) ys ws filled h =
    let all = Body uniques ∷ ys in
    let others = more_attributes more in
    let last = mark marks.Semicolon ∷ ws in
    let attributes = (words_of_attribute a ++ others) ++ last in
    step g (Body uniques) (UniqueNamed ∷ Body uniques ∷ []) ys (name n) (mark marks.Colon ∷ attributes) refl
    (step g UniqueNamed (AnAttribute ∷ Uniques ∷ []) all (mark marks.Colon) attributes refl
    (regroup g (AnAttribute ∷ Uniques ∷ all) (words_of_attribute a) others last
    (pass_attribute g a (Uniques ∷ all) (others ++ last)
    (pass_more g Uniques more all last refl (step g Uniques [] all (mark marks.Semicolon) ws refl h)))))

pass_unique_rule : (g : Goal) (ys : List Symbol) (u : Unique) (ws : List Word) → FitsUnique u
    → Led g (Body uniques ∷ ys) ws → Led g (Body uniques ∷ ys) (words_of_unique u ++ ws)
pass_unique_rule g ys u ws f h =
    let all = Body uniques ∷ ys in
    let label = words_of_label u.label in
    let attributes = with_commas (map words_of_attribute u.attributes) in
    regroup g all (label ++ attributes) (mark marks.Semicolon ∷ []) ws
    (regroup g all label attributes (mark marks.Semicolon ∷ ws)
    (unique_words g u.label u.attributes ys ws f h))

-- each of a list, where each leaves its symbol to come again
pub pass_each : (g : Goal) (z : Symbol) (ys : List Symbol) (A : Type 0) (write : A → List Word) (Fit : A → Type 0)
    → ((x : A) (ws : List Word) → Fit x → Led g (z ∷ ys) ws → Led g (z ∷ ys) (write x ++ ws))
    → (xs : List A) (ws : List Word) → Every Fit xs → Led g (z ∷ ys) ws
    → Led g (z ∷ ys) (concatenated (map write xs) ++ ws)
pass_each g z ys A write Fit one [] ws f h = h
pass_each g z ys A write Fit one (x ∷ xs) ws f h =
    let others = concatenated (map write xs) in
    regroup g (z ∷ ys) (write x) others ws (one x (others ++ ws) f.0 (pass_each g z ys A write Fit one xs ws f.1 h))

-- a clause that may be absent: what is behind it stands behind this one or behind one before it
pass_clause : (g : Goal) (c d : Clause) (k : Keyword) (ys : List Symbol) (A : Type 0) (write : A → List Word)
    (Fit : A → Type 0)
    → ((x : A) (ws : List Word) → Fit x → Led g (Body d ∷ ys) ws → Led g (Body d ∷ ys) (write x ++ ws))
    → next g.levels (Body c) (token (keyword k)) ≡ Ok (Body d ∷ [])
    → (xs : Option (List A)) (ws : List Word) → Maybe (Every Fit) xs → Led g (Body c ∷ ys) ws → Led g (Body d ∷ ys) ws
    → Led g (Body c ∷ ys) (words_of_clause k write xs ++ ws)
pass_clause g c d k ys A write Fit one e None ws f h later = h
pass_clause g c d k ys A write Fit one e (Some xs) ws f h later =
    step g (Body c) (Body d ∷ []) ys (keyword k) (concatenated (map write xs) ++ ws) e
    (pass_each g (Body d) ys A write Fit one xs ws f later)

next_unique_clause : (levels : ℕ) (c : Clause) → follows c uniques ≡ true
    → next levels (Body c) (token (keyword keywords.Unique)) ≡ Ok (Body uniques ∷ [])
next_unique_clause levels c e = rw e refl

next_inverse_clause : (levels : ℕ) (c : Clause) → follows c inverses ≡ true
    → next levels (Body c) (token (keyword keywords.Inverse)) ≡ Ok (Body inverses ∷ [])
next_inverse_clause levels c e = rw e refl

-- the rules and the end of an entity, behind any clause
pass_where : (g : Goal) (c : Clause) (rules : Option (List Rule)) (ys : List Symbol) (ws : List Word)
    → Maybe (FitsRules g.levels keywords.EndEntity) rules → Led g ys ws
    → Led g (Body c ∷ ys) (words_of_clause keywords.Where words_of_rule rules ++ keyword keywords.EndEntity
    ∷ mark marks.Semicolon ∷ ws)
pass_where g c None ys ws f h = step g (Body c) (Just marks.Semicolon ∷ []) ys (keyword keywords.EndEntity)
    (mark marks.Semicolon ∷ ws) refl (pass_mark g marks.Semicolon ys ws h)
pass_where g c (Some rules) ys ws f h =
    let last = keyword keywords.EndEntity ∷ mark marks.Semicolon ∷ ws in
    step g (Body c) (Rules keywords.EndEntity ∷ []) ys (keyword keywords.Where) (concatenated (map words_of_rule rules)
    ++ last) refl
    (pass_rules g keywords.EndEntity rules ys last f (pass_rules_end g keywords.EndEntity ys ws h))

-- the clauses from each on
abbrev from_rules : Entity → List Word → List Word
from_rules e ws = words_of_clause keywords.Where words_of_rule e.rules ++ keyword keywords.EndEntity
    ∷ mark marks.Semicolon ∷ ws

abbrev from_uniques : Entity → List Word → List Word
from_uniques e ws = words_of_clause keywords.Unique words_of_unique e.uniques ++ from_rules e ws

abbrev from_inverses : Entity → List Word → List Word
from_inverses e ws = words_of_clause keywords.Inverse words_of_inverse e.inverses ++ from_uniques e ws

abbrev from_derived : Entity → List Word → List Word
from_derived e ws = words_of_clause keywords.Derive words_of_derived e.derived ++ from_inverses e ws

pass_uniques : (g : Goal) (c : Clause) (e : Entity) (ys : List Symbol) (ws : List Word) → FitsEntity g.levels e
    → follows c uniques ≡ true → Led g ys ws → Led g (Body c ∷ ys) (from_uniques e ws)
pass_uniques g c e ys ws f u h =
    pass_clause g c uniques keywords.Unique ys Unique words_of_unique FitsUnique (pass_unique_rule g ys)
    (next_unique_clause g.levels c u) e.uniques (from_rules e ws) f.uniques
    (pass_where g c e.rules ys ws f.rules h) (pass_where g uniques e.rules ys ws f.rules h)

pass_inverses : (g : Goal) (c : Clause) (e : Entity) (ys : List Symbol) (ws : List Word) → FitsEntity g.levels e
    → follows c inverses ≡ true → follows c uniques ≡ true → Led g ys ws → Led g (Body c ∷ ys) (from_inverses e ws)
pass_inverses g c e ys ws f i u h =
    pass_clause g c inverses keywords.Inverse ys Inverse words_of_inverse (FitsInverse g.levels) (pass_inverse g ys)
    (next_inverse_clause g.levels c i) e.inverses (from_uniques e ws) f.inverses
    (pass_uniques g c e ys ws f u h) (pass_uniques g inverses e ys ws f refl h)

pass_deriveds : (g : Goal) (e : Entity) (ys : List Symbol) (ws : List Word) → FitsEntity g.levels e → Led g ys ws
    → Led g (Body explicits ∷ ys) (from_derived e ws)
pass_deriveds g e ys ws f h =
    pass_clause g explicits derived keywords.Derive ys Derived words_of_derived (FitsDerived g.levels)
    (pass_derived g ys) refl e.derived (from_inverses e ws) f.derived
    (pass_inverses g explicits e ys ws f refl refl h) (pass_inverses g derived e ys ws f refl refl h)

-- an entity
pub pass_entity : (g : Goal) (e : Entity) (ys : List Symbol) (ws : List Word) → FitsEntity g.levels e
    → Led g (Declarations ∷ ys) ws → Led g (Declarations ∷ ys) (words_of_entity e ++ ws)
pass_entity g e ys ws f h =
    let all = Declarations ∷ ys in
    let head = words_of_head e in
    let explicit = concatenated (map words_of_explicit e.explicits) in
    let derive = words_of_clause keywords.Derive words_of_derived e.derived in
    let inverse = words_of_clause keywords.Inverse words_of_inverse e.inverses in
    let unique = words_of_clause keywords.Unique words_of_unique e.uniques in
    let rules = words_of_clause keywords.Where words_of_rule e.rules in
    let rest = said keywords.Abstract e.is_abstract ++ words_of_supertype e.supertype ++ words_of_subtype e.subtype_of
    ++ mark marks.Semicolon ∷ [] in
    let inner = explicit ++ from_derived e ws in
    regroup g all (head ++ explicit ++ derive ++ inverse ++ unique ++ rules) (keyword keywords.EndEntity
    ∷ mark marks.Semicolon ∷ []) ws
    (regroup g all (head ++ explicit ++ derive ++ inverse ++ unique) rules (keyword keywords.EndEntity
    ∷ mark marks.Semicolon ∷ ws)
    (regroup g all (head ++ explicit ++ derive ++ inverse) unique (from_rules e ws)
    (regroup g all (head ++ explicit ++ derive) inverse (from_uniques e ws)
    (regroup g all (head ++ explicit) derive (from_inverses e ws)
    (regroup g all head explicit (from_derived e ws)
    (step g Declarations (Id ∷ Head ∷ Body explicits ∷ Declarations ∷ []) ys (keyword keywords.Entity)
    (name e.name ∷ rest ++ inner) refl
    (pass_id g e.name (Head ∷ Body explicits ∷ all) (rest ++ inner)
    (pass_head g e (Body explicits ∷ all) inner f.supertype f.subtype_of
    (pass_each g (Body explicits) all Explicit words_of_explicit (FitsExplicit g.levels) (pass_explicit g all)
    e.explicits (from_derived e ws) f.explicits
    (pass_deriveds g e all ws f h))))))))))
