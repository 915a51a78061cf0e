-- Parameters that are read and built.
use Rattle.std.proofs.Common.{◌≡◌, ℕ, ◌+◌, ◌<◌, ◌≤◌, Bool, true, false, List, [], ◌∷◌, ◌++◌, length, take, drop, Some, Result, Ok, Err, MatchResult, refl, sym, ap, ◌∙◌, subst, append_assoc, append-nil, arith, length-take, length-drop}
use Rattle.std.proofs.lemmas.List.{take_at, drop_at}
use Rattle.step_lexer.specs.declared.token.Mark.TheVariants.{Open, Close, Comma, Semicolon, Equals, Dollar, Asterisk}
use Rattle.step_lexer.specs.declared.token.Sort.{Sort}
use Rattle.step_lexer.specs.declared.token.Sort.TheVariants as sorts
use Rattle.step_lexer.specs.declared.token.Token.{Token}
use Rattle.step_lexer.specs.Front.{IsFront}
use Rattle.step_lexer.specs.Reading.{Reading, SkipsMark, Takes, left}
use Rattle.step_lexer.proofs.ReadingLemmas.{some_bytes}
use Rattle.step_lexer.proofs.Standing.{token_at, front_taken}
use Rattle.step_records.specs.steps.Building.{Building}
use Rattle.step_records.specs.Cells.{all_of, typed_of}
use Rattle.step_records.specs.steps.Tokens.{IsLeafAt, leaf_of, leaf_tree}
use Rattle.step_records.specs.declared.cell.Leaf.{Leaf}
use Rattle.step_records.specs.declared.cell.Leaf.TheVariants.{Keyword}
use Rattle.step_structures.specs.declared.fault.TextFault.{TextFault}
use Rattle.step_structures.specs.Words.{keyword, mark, token, located, word_of}
use Rattle.step_structures.specs.Trees.{Tree, leaf, typed, this, items_of_tree}
use Rattle.step_structures.specs.Fits.{IsLeaf}
use Rattle.step_structures.specs.steps.Predict.{Just, is_mark}
use Rattle.step_structures.specs.steps.Predict as predict
use Rattle.step_records.specs.steps.Readers.{Progress, reading}
use Rattle.step_records.specs.steps.Steps.{StopsIn, StopsAnyway, TakesNext, Passes, IsParameter, PushesAll, PushesLeaf, PushesNext, PushesKeyword, TakesInner, TakesValue, TakesItem, BeginsItems, TakesItems, TakesParams, GoesOn, inner_symbols}
use Rattle.step_records.proofs.Looking.{mark_met, mark_shown}
use Rattle.step_records.proofs.Taking.{passes_here, stops_behind_taken}
use Rattle.step_records.proofs.ParamSteps.{leaf_done, SoFar, items_none, items_err_first, items_first, items_next, items_done, all_push, inner_done, typed_done, params_done, params_err_items}

-- what stands next for the lexer of a reader stands next for the reader
pub front_of : (r : Reading) (b : Building) (p : Progress) (sort : Sort) (n : ℕ)
    → record { place = r.place; built = b } ≡ p → r.text ≡ b.text → IsFront (left (reading p)) sort n
    → IsFront (left r) sort n
front_of r b p sort n v e f = subst (λ l. IsFront l sort n)
    (ap (λ (x : Progress). left (reading x)) (sym v) ∙ ap (drop r.place) (sym e)) f

-- the token of this sort and length that stands next
abbrev pub next_token : Reading → Sort → ℕ → Token
next_token r sort n = token_at r.place sort (take n (left r))

some_left : (r : Reading) (sort : Sort) (n : ℕ) → IsFront (left r) sort n → r.place ≤ length r.text
some_left r sort n f = omega (arith, some_bytes (left r) sort n f, f.within, length-drop r.place r.text)

pub next_taken : (r : Reading) (sort : Sort) (n : ℕ) → IsFront (left r) sort n
    → Takes r (next_token r sort n) (record r { place = r.place + n })
next_taken r sort n f = front_taken r sort n (some_left r sort n f) f

pub leaf_next : (r : Reading) (text : List ℕ) (at : ℕ) (sort : Sort) (n : ℕ) (k : Leaf) → r.text ≡ text
    → at ≡ r.place → IsFront (left r) sort n → leaf_of sort ≡ Some k → IsLeafAt text k at n (next_token r sort n)
leaf_next r text at sort n k e p f is =
    let h = next_taken r sort n f in
    let here : IsLeafAt r.text k r.place n (next_token r sort n) = record {
      is = is;
      stands = record { within = some_left r sort n f; front = h.front; is = h.text };
      place = refl;
      length = omega (arith, length-take n (left r), f.within);
    } in
    subst (λ (x : List ℕ × ℕ). IsLeafAt x.0 k x.1 n (next_token r sort n)) (λ i. (e i, sym p i)) here

-- the next token, of this sort and length, is pushed and skipped
module _ (r s : Reading) (b c : Building) (sort : Sort) (n : ℕ) (e : r.text ≡ b.text) (f : IsFront (left r) sort n)
    (pushed : c ≡ record b { pending = b.pending ++ leaf_tree (next_token r sort n) ∷ [] })
    (skipped : s ≡ record r { place = r.place + n }) where
  taken_next : Takes (record { text = b.text; place = r.place }) (next_token r sort n)
      (record { text = c.text; place = s.place })
  taken_next =
      let text : r.text ≡ c.text = e ∙ sym (ap (λ (x : Building). x.text) pushed) in
      let place : r.place + n ≡ s.place = sym (ap (λ (x : Reading). x.place) skipped) in
      let from : r ≡ record { text = b.text; place = r.place } = λ i. record { text = e i; place = r.place } in
      let to : record r { place = r.place + n } ≡ record { text = c.text; place = s.place } =
      λ i. record { text = text i; place = place i } in
      subst (λ (x : Reading × Reading). Takes x.0 (next_token r sort n) x.1) (λ i. (from i, to i))
      (next_taken r sort n f)

  pub leaf_pushed : (k : Leaf) → IsParameter k sort
      → PushesLeaf (record { place = r.place; built = b }) (record { place = s.place; built = c })
  leaf_pushed k is = record { token = next_token r sort n; taken = taken_next; kind = k; is = is; pushes = pushed }

  pub keyword_pushed : leaf_of sort ≡ Some Keyword
      → PushesKeyword (record { place = r.place; built = b }) (record { place = s.place; built = c })
  keyword_pushed is = record { token = next_token r sort n; taken = taken_next; is = is; pushes = pushed }

-- what is pending behind what is pending
pub pushes_over : (a b : Building) (xs : List Tree) → a ≡ b
    → record a { pending = a.pending ++ xs } ≡ record b { pending = b.pending ++ xs }
pushes_over a b xs e = λ i. record (e i) { pending = (e i).pending ++ xs }

-- a token that is a parameter by itself
parameter_is : (sort : Sort) (s : List ℕ) (k : Leaf) → leaf_of sort ≡ Some k → (k ≡ Keyword → ⊥)
    → IsLeaf (word_of sort s) × (is_mark Close (token (word_of sort s)) ≡ false)
parameter_is sorts.Begin s k e d = absurd (cc)
parameter_is sorts.End s k e d = absurd (cc)
parameter_is (sorts.Keyword w) s k e d = let is : k ≡ Keyword = cc in absurd (d is)
parameter_is (sorts.UserDefined w) s k e d = absurd (cc)
parameter_is sorts.Scope s k e d = absurd (cc)
parameter_is (sorts.Name n) s k e d = (tt, refl)
parameter_is (sorts.Integer n) s k e d = (tt, refl)
parameter_is (sorts.Real n) s k e d = (tt, refl)
parameter_is (sorts.Element w) s k e d = (tt, refl)
parameter_is (sorts.String t) s k e d = (tt, refl)
parameter_is (sorts.Binary b) s k e d = (tt, refl)
parameter_is (sorts.Mark Open) s k e d = absurd (cc)
parameter_is (sorts.Mark Close) s k e d = absurd (cc)
parameter_is (sorts.Mark Comma) s k e d = absurd (cc)
parameter_is (sorts.Mark Semicolon) s k e d = absurd (cc)
parameter_is (sorts.Mark Equals) s k e d = absurd (cc)
parameter_is (sorts.Mark Dollar) s k e d = (tt, refl)
parameter_is (sorts.Mark Asterisk) s k e d = (tt, refl)

-- a token that is a parameter by itself, and is pending, begins the items
leaf_item : (n : ℕ) (old new : Progress) → PushesLeaf old new → BeginsItems true n old new
leaf_item n old new h =
    let mid : Progress = record old { place = new.place } in
    let same : reading new ≡ reading mid =
    ap (λ (b : Building). reading (record { place = new.place; built = b })) h.pushes in
    let w = word_of h.token.sort h.token.text.now in
    let is = parameter_is h.token.sort h.token.text.now h.kind h.is.0 h.is.1 in
    let done = leaf_done n w h.token (reading mid) is.0 refl in (
      record {
        token = h.token;
        mid = mid;
        taken = subst (λ r. Takes (reading old) h.token r) same h.taken;
        same = refl;
        value = record {
          tree = leaf_tree h.token;
          pushes = h.pushes;
          fits = done.0;
          passes = subst (λ r. Passes (predict.Value n ∷ []) [] (located h.token ∷ []) (items_of_tree
              (leaf_tree h.token)) (reading mid) r) (sym same) done.1;
        };
      },
      is.1,
    )

-- the next parameter is read, or nothing is
pub pushed_item : (b : Bool) (n : ℕ) (old new : Progress) → b ≡ true → PushesNext b old new
    → BeginsItems true n old new
pushed_item true n old new e h = leaf_item n old new h
pushed_item false n old new e h = absurd (cc)

pub not_pushed : (b : Bool) (old new : Progress) → b ≡ false → PushesNext b old new → new ≡ old
not_pushed false old new e h = h
not_pushed true old new e h = absurd (cc)

pub next_begins : (b : Bool) (n : ℕ) (old new : Progress) → b ≡ true → TakesNext b n old new
    → BeginsItems true n old new
next_begins true n old new e h = h
next_begins false n old new e h = absurd (cc)

pub not_begun : (b : Bool) (n : ℕ) (old new : Progress) → b ≡ false → TakesNext b n old new → new ≡ old
not_begun false n old new e h = h
not_begun true n old new e h = absurd (cc)

pub item_taken : (n : ℕ) (old a b c : Progress) (t : Token) → a ≡ old → Takes (reading a) t (reading b)
    → b.built ≡ a.built → TakesValue n (located t) b c → TakesItem n old c
item_taken n old a b c t e h f v = record {
  token = t;
  mid = b;
  taken = subst (λ (r : Progress). Takes (reading r) t (reading b)) e h;
  same = f ∙ ap (λ (r : Progress). r.built) e;
  value = v;
}

pub first_taken : (n : ℕ) (old a b c : Progress) (t : Token) → a ≡ old → Takes (reading a) t (reading b)
    → b.built ≡ a.built → is_mark Close (located t).lookahead ≡ false → TakesValue n (located t) b c
    → BeginsItems true n old c
unfolding item_taken
first_taken n old a b c t e h f m v = (item_taken n old a b c t e h f v, m)

pub item_err_value : (e : TextFault) (n : ℕ) (old a b : Progress) (t : Token) → a ≡ old
    → Takes (reading a) t (reading b) → StopsIn e (predict.Value n ∷ []) (located t ∷ []) (reading b)
    → StopsIn e (predict.Value n ∷ []) [] (reading old)
item_err_value e n old a b t same h g =
    subst (λ (r : Progress). StopsIn e (predict.Value n ∷ []) [] (reading r)) same
    (stops_behind_taken e (predict.Value n ∷ []) [] t (passes_here (predict.Value n ∷ []) (reading a)) h g)

-- a list of which the parenthesis is read
module _ (n : ℕ) (old a b : Progress) (same : a ≡ old) (skips : Bool) (is : skips ≡ true)
    (skip : SkipsMark Open skips (reading a) (reading b)) (built : b.built ≡ a.built) where
  skipped : SkipsMark Open true (reading a) (reading b)
  skipped = subst (λ s. SkipsMark Open s (reading a) (reading b)) is skip

  opened : is_mark Open (located skipped.0).lookahead ≡ true
  opened = mark_shown skipped.0 Open skipped.1

  closes_none : is_mark Close (located skipped.0).lookahead ≡ false
  closes_none = ap (is_mark Close) (mark_met Open (located skipped.0).lookahead opened)

  pub list_taken : (c : Progress) → ((t : Token) → is_mark Open (located t).lookahead ≡ true
      → TakesValue n (located t) b c) → BeginsItems true n old c
  list_taken c h = first_taken n old a b c skipped.0 same skipped.2 built closes_none (h skipped.0 opened)

  pub list_stops : (e : TextFault) → ((t : Token) → is_mark Open (located t).lookahead ≡ true
      → StopsIn e (predict.Value n ∷ []) (located t ∷ []) (reading b)) → StopsAnyway e n (reading old)
  list_stops e h = (
    item_err_value e n old a b skipped.0 same skipped.2 (h skipped.0 opened),
    subst (λ (r : Progress). StopsIn e (predict.Items n ∷ []) [] (reading r)) same
        (items_err_first e n skipped.0 (reading a) (reading b) skipped.2 closes_none (h skipped.0 opened)),
  )

pub begins_some : (b : Bool) (n : ℕ) (old new : Progress) → b ≡ true → BeginsItems b n old new
    → BeginsItems true n old new
begins_some true n old new e h = h
begins_some false n old new e h = absurd (cc)

pub begins_none : (b : Bool) (n : ℕ) (old new : Progress) → b ≡ false → BeginsItems b n old new → TakesItems n old new
begins_none false n old new e h = h
begins_none true n old new e h = absurd (cc)

-- the parameters so far, of which there are some
pub record ItemsSoFar (n : ℕ) (old now : Progress) : Type 0 where
  pub trees : List Tree
  pub pushes : PushesAll old trees now
  pub so : SoFar n (reading old) (all_of trees) (reading now)

pub items_empty : (n : ℕ) (old a : Progress) (t : Token) → Takes (reading old) t (reading a) → a.built ≡ old.built
    → is_mark Close (located t).lookahead ≡ true → TakesItems n old a
items_empty n old a t h e c =
    let listed = items_none n t (reading old) (reading a) h c in
    record {
      trees = [];
      pushes = e ∙ ap (λ l. record old.built { pending = l }) (sym (append-nil old.built.pending));
      fits = listed.0;
      passes = listed.1;
    }

pub items_begin : (n : ℕ) (old a b : Progress) (t : Token) → Takes (reading old) t (reading a) → a.built ≡ old.built
    → is_mark Close (located t).lookahead ≡ false → TakesValue n (located t) a b → ItemsSoFar n old b
items_begin n old a b t h e c v = record {
  trees = v.tree ∷ [];
  pushes = v.pushes ∙ pushes_over a.built old.built (v.tree ∷ []) e;
  so = items_first n t (reading old) (reading a) v.tree (reading b) h c (v.fits, v.passes);
}

pub items_go_on : (n : ℕ) (old here a b c : Progress) (t u : Token) → ItemsSoFar n old here
    → Takes (reading here) t (reading a) → a.built ≡ here.built → is_mark Comma (located t).lookahead ≡ true
    → Takes (reading a) u (reading b) → b.built ≡ a.built → TakesValue n (located u) b c → ItemsSoFar n old c
items_go_on n old here a b c t u s h e comma k f v =
    let more : c.built ≡ record old.built { pending = (old.built.pending ++ s.trees) ++ v.tree ∷ [] } =
    v.pushes ∙ pushes_over b.built (record old.built { pending = old.built.pending ++ s.trees }) (v.tree ∷ [])
    (f ∙ e ∙ s.pushes) in
    record {
      trees = s.trees ++ v.tree ∷ [];
      pushes = more ∙ ap (λ l. record old.built { pending = l }) (append_assoc old.built.pending s.trees (v.tree ∷ []));
      so = subst (λ l. SoFar n (reading old) l (reading c)) (sym (all_push s.trees v.tree)) (items_next n (reading old)
          (all_of s.trees) (reading here) t (reading a) u (reading b) v.tree (reading c) s.so h comma k
          (v.fits, v.passes));
    }

pub items_end : (n : ℕ) (old here a : Progress) (t : Token) → ItemsSoFar n old here
    → Takes (reading here) t (reading a) → a.built ≡ here.built → is_mark Close (located t).lookahead ≡ true
    → TakesItems n old a
items_end n old here a t s h e c =
    let listed = items_done n (reading old) (all_of s.trees) (reading here) t (reading a) s.so h c in
    record { trees = s.trees; pushes = e ∙ s.pushes; fits = listed.0; passes = listed.1 }

-- a comma, or a parenthesis
pub a_comma : (b : Bool) (old new : Progress) → b ≡ true → (g : GoesOn b old new)
    → is_mark Comma (located g.token).lookahead ≡ true
a_comma true old new e g = g.is
a_comma false old new e g = absurd (cc)

pub a_close : (b : Bool) (old new : Progress) → b ≡ false → (g : GoesOn b old new)
    → is_mark Close (located g.token).lookahead ≡ true
a_close false old new e g = g.is
a_close true old new e g = absurd (cc)

pub inner_whole : (n : ℕ) (old a b c d : Progress) (t : Token) → a.built ≡ old.built
    → Passes (Just Open ∷ []) [] [] (this (mark Open) ∷ []) (reading old) (reading a)
    → Takes (reading a) t (reading b) → b.built ≡ a.built → TakesValue (n + 1) (located t) b c → d.built ≡ c.built
    → Passes (Just Close ∷ []) [] [] (this (mark Close) ∷ []) (reading c) (reading d) → TakesInner n old d
inner_whole n old a b c d t e h k f v g close =
    let inner = inner_done n (reading old) (reading a) t (reading b) v.tree (reading c) (reading d) h k
    (v.fits, v.passes) close in
    record {
      tree = v.tree;
      pushes = g ∙ v.pushes ∙ pushes_over b.built old.built (v.tree ∷ []) (f ∙ e);
      fits = inner.0;
      passes = inner.1;
    }

params_whole : (n : ℕ) (old a b : Progress) → a.built ≡ old.built
    → Passes (Just Open ∷ []) [] [] (this (mark Open) ∷ []) (reading old) (reading a) → TakesItems (n + 1) a b
    → TakesParams n old b
params_whole n old a b e h v =
    let params = params_done n (reading old) (reading a) (all_of v.trees) (reading b) h (v.fits, v.passes) in
    record {
      trees = v.trees;
      pushes = v.pushes ∙ pushes_over a.built old.built v.trees e;
      fits = params.0;
      passes = params.1;
    }

pub params_of : {M : Type 0} (n : ℕ) (old a b : Progress) (r : Result M TextFault) → a.built ≡ old.built
    → Passes (Just Open ∷ []) [] [] (this (mark Open) ∷ []) (reading old) (reading a)
    → MatchResult r (λ _. TakesItems (n + 1) a b) (λ e. StopsIn e (predict.Items (n + 1) ∷ []) [] (reading a))
    → MatchResult r (λ _. TakesParams n old b) (λ e. StopsIn e (predict.params_symbols n) [] (reading old))
params_of n old a b (Ok v) e h g = params_whole n old a b e h g
params_of n old a b (Err f) e h g = params_err_items f n (reading old) (reading a) h g

-- a token that is a keyword
pub keyword_leaf : (sort : Sort) (s : List ℕ) → leaf_of sort ≡ Some Keyword
    → (text : List ℕ) × (word_of sort s ≡ keyword text)
keyword_leaf (sorts.Keyword w) s e = (w.text.now, refl)
keyword_leaf sorts.Begin s e = absurd (cc)
keyword_leaf sorts.End s e = absurd (cc)
keyword_leaf (sorts.UserDefined w) s e = absurd (cc)
keyword_leaf sorts.Scope s e = absurd (cc)
keyword_leaf (sorts.Name n) s e = absurd (cc)
keyword_leaf (sorts.Integer d) s e = absurd (cc)
keyword_leaf (sorts.Real d) s e = absurd (cc)
keyword_leaf (sorts.Element w) s e = absurd (cc)
keyword_leaf (sorts.String t) s e = absurd (cc)
keyword_leaf (sorts.Binary b) s e = absurd (cc)
keyword_leaf (sorts.Mark Open) s e = absurd (cc)
keyword_leaf (sorts.Mark Close) s e = absurd (cc)
keyword_leaf (sorts.Mark Comma) s e = absurd (cc)
keyword_leaf (sorts.Mark Semicolon) s e = absurd (cc)
keyword_leaf (sorts.Mark Equals) s e = absurd (cc)
keyword_leaf (sorts.Mark Dollar) s e = absurd (cc)
keyword_leaf (sorts.Mark Asterisk) s e = absurd (cc)

-- what is put together of trees behind a mark
abbrev pub wrapped : (List Tree → Tree) → ℕ → Building → Building
wrapped f m b = record b { pending = take m b.pending ++ f (drop m b.pending) ∷ [] }

pub wrapped_over : (f : List Tree → Tree) (m : ℕ) (b : Building) (ps xs : List Tree) → m ≡ length ps
    → wrapped f m (record b { pending = ps ++ xs }) ≡ record b { pending = ps ++ f xs ∷ [] }
wrapped_over f m b ps xs e =
    let front : take m (ps ++ xs) ≡ ps = take_at ps xs m (sym e) in
    let rest : drop m (ps ++ xs) ≡ xs = drop_at ps xs m (sym e) in
    λ i. record b { pending = front i ++ f (rest i) ∷ [] }

pub typed_whole : (n : ℕ) (t : Token) (m : ℕ) (old a b d : Progress) → n < 64 → leaf_of t.sort ≡ Some Keyword
    → m ≡ length old.built.pending
    → a ≡ record old { built = record old.built { pending = old.built.pending ++ leaf_tree t ∷ [] } }
    → TakesInner n a b → d ≡ record b { built = wrapped typed_of m b.built } → TakesValue n (located t) old d
typed_whole n t m old a b d l e size ea h ed =
    let key = keyword_leaf t.sort t.text.now e in
    let from : reading a ≡ reading old = ap reading ea in
    let to : reading d ≡ reading b = ap reading ed in
    let both : b.built ≡ record old.built { pending = old.built.pending ++ leaf_tree t ∷ h.tree ∷ [] } =
    h.pushes ∙ ap (λ p. record p.built { pending = p.built.pending ++ h.tree ∷ [] }) ea
    ∙ ap (λ q. record old.built { pending = q }) (append_assoc old.built.pending (leaf_tree t ∷ []) (h.tree ∷ [])) in
    let made : d.built ≡ record old.built { pending = old.built.pending ++ typed_of (leaf_tree t ∷ h.tree ∷ []) ∷ [] } =
    ap (λ p. p.built) ed ∙ ap (wrapped typed_of m) both
    ∙ wrapped_over typed_of m old.built old.built.pending (leaf_tree t ∷ h.tree ∷ []) size in
    let is : typed_of (leaf_tree t ∷ h.tree ∷ []) ≡ typed key.0 h.tree =
    ap (λ w. typed_of (leaf w ∷ h.tree ∷ [])) key.1 in
    let whole = typed_done n t key.0 (reading old) h.tree (reading d) l (ap token key.1) (
      h.fits,
      subst
          (λ r. Passes (inner_symbols n) [] [] (this (mark Open) ∷ (items_of_tree h.tree ++ this (mark Close) ∷ [])) r
          (reading d)) from (subst (λ r. Passes (inner_symbols n) [] [] (this (mark Open) ∷ (items_of_tree h.tree
          ++ this (mark Close) ∷ [])) (reading a) r) (sym to) h.passes),
    ) in
    record {
      tree = typed key.0 h.tree;
      pushes = made ∙ ap (λ x. record old.built { pending = old.built.pending ++ x ∷ [] }) is;
      fits = whole.0;
      passes = whole.1;
    }
