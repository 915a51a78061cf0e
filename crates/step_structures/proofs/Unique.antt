-- Tokens are those of one tree at most.
use Rattle.std.proofs.Common.{◌≡◌, ℕ, ◌+◌, true, List, [], ◌∷◌, ◌++◌, Option, Some, None, refl, sym, ap, ◌∙◌, subst, append_assoc, append-nil}
use Rattle.std.proofs.lemmas.Bool.{false≢true}
use Rattle.std.specs.Prelude.{codes}
use Rattle.parsing.proofs.Leading.{leads_once}
use Rattle.step_lexer.specs.declared.token.Mark.{Mark}
use Rattle.step_lexer.specs.declared.token.Mark.TheVariants.{Open, Close, Comma, Semicolon}
use Rattle.step_structures.specs.Words.{Word, keyword, name, string, ends, mark, Lookahead, token}
use Rattle.step_structures.specs.Trees.{Tree, leaf, typed, group, Trees, none, one, Record, Form, internal, external, ExchangeRow, Section, rows_of, Item, this, says, named, Meets, MeetAll, items_of_tree, items_of_more, items_of_list, items_of_record, items_of_partial_records, items_of_form, items_of_row, items_of_rows, items_of_records, items_of_header, items_of_heading, items_of_sections, items_of_end, section}
use Rattle.step_structures.specs.Fits.{StructureRules, IsLeaf, FitsTree, FitsTrees, FitsRecord, FitsPartialRecords, FitsForm, FitsRows, FitsRecords, FitsHeader}
use Rattle.step_structures.specs.steps.Predict.{Symbol, Behind, Value, Items, Body, is_mark, next}
use Rattle.step_structures.proofs.Meeting.{meet_as, meet_split, meets_this, same_this, same_name, same_keyword}
use Rattle.step_structures.proofs.Passing.{Passing, names_after, fits_both, items_behind, regroup_sections, pass_tree, pass_list, pass_form, pass_heading, begins_tree}

-- Parts that pass from the same symbols end at the same place.
pub same_front : (rules : StructureRules) (ys : List Symbol) (a b c d : List Item) (ws : List Lookahead)
    → Passing rules ys a [] → Passing rules ys c [] → MeetAll ws (a ++ b) → MeetAll ws (c ++ d) → (u v : List Lookahead)
    × MeetAll u a × MeetAll u c × MeetAll v b × MeetAll v d
same_front rules ys a b c d ws f g h k =
    let p = meet_split ws a b h in
    let q = meet_split ws c d k in
    let e = leads_once (next rules) ys p.0 q.0 p.1 q.1 (f p.0 p.3) (g q.0 q.3) (sym p.2 ∙ q.2) in (
      p.0,
      p.1,
      p.3,
      subst (λ l. MeetAll l c) (sym e.0) q.3,
      p.4,
      subst (λ l. MeetAll l d) (sym e.1) q.4,
    )

-- an item that asks for a token meets no other
leaf_not : (s : Lookahead) (v w : Word) → IsLeaf v → Meets s (this v) → Meets s (this w) → (IsLeaf w → ⊥) → ⊥
leaf_not s v w f h k refuted = refuted (let P : Word → Type 0 = IsLeaf in subst P (same_this s v w h k) f)

word_not_mark : (s : Lookahead) (a : List ℕ) (m : Mark) → Meets s (this (keyword a)) → Meets s (this (mark m)) → ⊥
word_not_mark s a m h k = let e : keyword a ≡ mark m = same_this s (keyword a) (mark m) h k in cc

one_mark : (s : Lookahead) (m n : Mark) → Meets s (this (mark m)) → Meets s (this (mark n)) → (m ≡ n → ⊥) → ⊥
one_mark s m n h k refuted = let e : mark m ≡ mark n = same_this s (mark m) (mark n) h k in refuted cc

-- a name is no keyword
name_not_word : (s : Lookahead) (m : ℕ) (word : List ℕ) → Meets s (named m) → Meets s (says word) → ⊥
name_not_word (token (name i text)) m word h k = k
name_not_word _ m word h k = h

close_comma : Close ≡ Comma → ⊥
close_comma e = cc

open_semicolon : Open ≡ Semicolon → ⊥
open_semicolon e = cc

-- a list, with its tree first
first_tree : (x : Tree) (xs : Trees) (ws : List Lookahead)
    → MeetAll ws ((items_of_tree x ++ items_of_more xs) ++ this (mark Close) ∷ [])
    → MeetAll ws (items_of_tree x ++ (items_of_more xs ++ this (mark Close) ∷ []))
first_tree x xs ws h = meet_as ws ((items_of_tree x ++ items_of_more xs) ++ this (mark Close) ∷ []) (items_of_tree x
    ++ (items_of_more xs ++ this (mark Close) ∷ [])) (append_assoc (items_of_tree x) (items_of_more xs)
    (this (mark Close) ∷ [])) h

-- no parameter begins with a closing parenthesis
not_empty : (rules : StructureRules) (x : Tree) (xs : Trees) (n : ℕ) (ws : List Lookahead) → FitsTree rules n x
    → MeetAll ws (items_of_list (one x xs)) → MeetAll ws (this (mark Close) ∷ []) → ⊥
not_empty rules x xs n [] f h k = k
not_empty rules x xs n (s ∷ ws) f h k =
    let b = begins_tree rules x n (items_of_more xs ++ this (mark Close) ∷ []) (s ∷ ws) f (first_tree x xs (s ∷ ws) h)
    in
    let e : s ≡ b.0 = cc in
    let close : is_mark Close s ≡ true = ap (is_mark Close) (meets_this s (mark Close) k.0) in
    false≢true (sym b.3 ∙ ap (is_mark Close) (sym e) ∙ close)

mutual
  pub same_tree : (x y : Tree) (rules : StructureRules) (n : ℕ) (ws : List Lookahead) → FitsTree rules n x → FitsTree rules n y
      → MeetAll ws (items_of_tree x) → MeetAll ws (items_of_tree y) → x ≡ y
  same_tree (leaf w) y rules n [] f g h k = absurd h
  same_tree (typed a x) y rules n [] f g h k = absurd h
  same_tree (group xs) y rules n [] f g h k = absurd h
  same_tree (leaf w) (leaf v) rules n (s ∷ ws) f g h k = ap leaf (same_this s w v h.0 k.0)
  same_tree (leaf w) (typed b y) rules n (s ∷ ws) f g h k = absurd (leaf_not s w (keyword b) f h.0 k.0 (λ z. z))
  same_tree (leaf w) (group ys) rules n (s ∷ ws) f g h k = absurd (leaf_not s w (mark Open) f h.0 k.0 (λ z. z))
  same_tree (typed a x) (leaf v) rules n (s ∷ ws) f g h k = absurd (leaf_not s v (keyword a) g k.0 h.0 (λ z. z))
  same_tree (typed a x) (typed b y) rules n (s ∷ []) f g h k = absurd h.1
  same_tree (typed a x) (typed b y) rules n (s ∷ o ∷ ws) f g h k =
      let close = this (mark Close) ∷ [] in
      let r = same_front rules (Value (n + 1) ∷ []) (items_of_tree x) close (items_of_tree y) close ws
      (pass_tree rules x (n + 1) f.1) (pass_tree rules y (n + 1) g.1) h.1.1 k.1.1 in
      ap (λ z. typed z x) (same_keyword s a b h.0 k.0) ∙ ap (typed b) (same_tree x y rules (n + 1) r.0 f.1 g.1 r.2 r.3)
  same_tree (typed a x) (group ys) rules n (s ∷ ws) f g h k = absurd (word_not_mark s a Open h.0 k.0)
  same_tree (group xs) (leaf v) rules n (s ∷ ws) f g h k = absurd (leaf_not s v (mark Open) g k.0 h.0 (λ z. z))
  same_tree (group xs) (typed b y) rules n (s ∷ ws) f g h k = absurd (word_not_mark s b Open k.0 h.0)
  same_tree (group xs) (group ys) rules n (s ∷ ws) f g h k = ap group (same_list xs ys rules (n + 1) ws f.1 g.1 h.1 k.1)

  pub same_list : (xs ys : Trees) (rules : StructureRules) (n : ℕ) (ws : List Lookahead) → FitsTrees rules n xs
      → FitsTrees rules n ys → MeetAll ws (items_of_list xs) → MeetAll ws (items_of_list ys) → xs ≡ ys
  same_list none none rules n ws f g h k = refl
  same_list none (one y ys) rules n ws f g h k = absurd (not_empty rules y ys n ws g.0 k h)
  same_list (one x xs) none rules n ws f g h k = absurd (not_empty rules x xs n ws f.0 h k)
  same_list (one x xs) (one y ys) rules n ws f g h k =
      let close = this (mark Close) ∷ [] in
      let r = same_front rules (Value n ∷ []) (items_of_tree x) (items_of_more xs ++ close) (items_of_tree y)
      (items_of_more ys ++ close) ws (pass_tree rules x n f.0) (pass_tree rules y n g.0) (first_tree x xs ws h)
      (first_tree y ys ws k) in
      ap (λ z. one z xs) (same_tree x y rules n r.0 f.0 g.0 r.2 r.3) ∙ ap (one y) (same_more xs ys rules n r.1 f.1 g.1
      r.4 r.5)

  pub same_more : (xs ys : Trees) (rules : StructureRules) (n : ℕ) (ws : List Lookahead) → FitsTrees rules n xs
      → FitsTrees rules n ys → MeetAll ws (items_of_more xs ++ this (mark Close) ∷ [])
      → MeetAll ws (items_of_more ys ++ this (mark Close) ∷ []) → xs ≡ ys
  same_more none none rules n ws f g h k = refl
  same_more none (one y ys) rules n [] f g h k = absurd h
  same_more none (one y ys) rules n (s ∷ ws) f g h k = absurd (one_mark s Close Comma h.0 k.0 close_comma)
  same_more (one x xs) ys rules n [] f g h k = absurd h
  same_more (one x xs) none rules n (s ∷ ws) f g h k = absurd (one_mark s Close Comma k.0 h.0 close_comma)
  same_more (one x xs) (one y ys) rules n (s ∷ ws) f g h k =
      let close = this (mark Close) ∷ [] in
      let r = same_front rules (Value n ∷ []) (items_of_tree x) (items_of_more xs ++ close) (items_of_tree y)
      (items_of_more ys ++ close) ws (pass_tree rules x n f.0) (pass_tree rules y n g.0) (first_tree x xs ws h.1)
      (first_tree y ys ws k.1) in
      ap (λ z. one z xs) (same_tree x y rules n r.0 f.0 g.0 r.2 r.3) ∙ ap (one y) (same_more xs ys rules n r.1 f.1 g.1
      r.4 r.5)

-- records, and what is behind them
same_record : (x y : Record) (rules : StructureRules) (n : ℕ) (b d : List Item) (ws : List Lookahead) → FitsRecord rules n x
    → FitsRecord rules n y → MeetAll ws (items_of_record x ++ b) → MeetAll ws (items_of_record y ++ d) → (x ≡ y)
    × (v : List Lookahead) × MeetAll v b × MeetAll v d
same_record x y rules n b d [] f g h k = absurd h
same_record x y rules n b d (s ∷ []) f g h k = absurd h.1
same_record x y rules n b d (s ∷ o ∷ ws) f g h k =
    let r = same_front rules (Items (n + 1) ∷ []) (items_of_list x.values) b (items_of_list y.values) d ws
    (pass_list rules x.values (n + 1) f.1) (pass_list rules y.values (n + 1) g.1) h.1.1 k.1.1 in
    let e = same_keyword s x.keyword y.keyword h.0 k.0 in
    let l = same_list x.values y.values rules (n + 1) r.0 f.1 g.1 r.2 r.3 in
    ((λ i. record { keyword = e i; values = l i }), r.1, r.4, r.5)

regroup : (a b c : List Item) (ws : List Lookahead) → MeetAll ws ((a ++ b) ++ c) → MeetAll ws (a ++ (b ++ c))
regroup a b c ws h = meet_as ws ((a ++ b) ++ c) (a ++ (b ++ c)) (append_assoc a b c) h

-- partial records, with the closing parenthesis
same_partials : (xs ys : List Record) (rules : StructureRules) (before : List (List ℕ)) (ws : List Lookahead)
    → FitsPartialRecords rules before xs → FitsPartialRecords rules before ys
    → MeetAll ws (items_of_partial_records xs ++ this (mark Close) ∷ [])
    → MeetAll ws (items_of_partial_records ys ++ this (mark Close) ∷ []) → xs ≡ ys
same_partials [] [] rules before ws f g h k = refl
same_partials [] (y ∷ ys) rules before [] f g h k = absurd h
same_partials [] (y ∷ ys) rules before (s ∷ ws) f g h k = absurd (word_not_mark s y.keyword Close k.0 h.0)
same_partials (x ∷ xs) ys rules before [] f g h k = absurd h
same_partials (x ∷ xs) [] rules before (s ∷ ws) f g h k = absurd (word_not_mark s x.keyword Close h.0 k.0)
same_partials (x ∷ xs) (y ∷ ys) rules before (s ∷ ws) f g h k =
    let close = this (mark Close) ∷ [] in
    let r = same_record x y rules 1 (items_of_partial_records xs ++ close) (items_of_partial_records ys ++ close)
    (s ∷ ws) f.1 g.1 (regroup (items_of_record x) (items_of_partial_records xs) close (s ∷ ws) h)
    (regroup (items_of_record y) (items_of_partial_records ys) close (s ∷ ws) k) in
    let G : Record → Type 0 = λ z. FitsPartialRecords rules (before ++ z.keyword ∷ []) ys in
    let l = same_partials xs ys rules (before ++ x.keyword ∷ []) r.1 f.2 (subst G (sym r.0) g.2) r.2 r.3 in
    (λ i. r.0 i ∷ l i)

none_behind : (p : Record) (ws : List Lookahead) → MeetAll ws (items_of_record p) → MeetAll ws (items_of_record p ++ [])
none_behind p ws h = meet_as ws (items_of_record p) (items_of_record p ++ []) (sym (append-nil (items_of_record p))) h

same_form : (x y : Form) (rules : StructureRules) (ws : List Lookahead) → FitsForm rules x → FitsForm rules y
    → MeetAll ws (items_of_form x) → MeetAll ws (items_of_form y) → x ≡ y
same_form (internal x) (internal y) rules ws f g h k = ap internal (same_record x y rules 0 [] [] ws f g
    (none_behind x ws h) (none_behind y ws k)).0
same_form (internal x) (external ys) rules [] f g h k = absurd h
same_form (internal x) (external ys) rules (s ∷ ws) f g h k = absurd (word_not_mark s x.keyword Open h.0 k.0)
same_form (external xs) y rules [] f g h k = absurd h
same_form (external xs) (internal y) rules (s ∷ ws) f g h k = absurd (word_not_mark s y.keyword Open k.0 h.0)
same_form (external xs) (external ys) rules (s ∷ ws) f g h k = ap external (same_partials xs ys rules [] ws f.2 g.2 h.1
    k.1)

-- what meets two items first
both_first : (i j : Item) (a b : List Item) (ws : List Lookahead) → MeetAll ws (i ∷ a) → MeetAll ws (j ∷ b)
    → (s : Lookahead) × (v : List Lookahead) × Meets s i × Meets s j × MeetAll v a × MeetAll v b
both_first i j a b [] h k = absurd h
both_first i j a b (s ∷ ws) h k = (s, ws, h.0, k.0, h.1, k.1)

-- instances, and what is behind the word that ends them
same_rows : (xs ys : List ExchangeRow) (rules : StructureRules) (before : List ℕ) (b d : List Item) (ws : List Lookahead)
    → FitsRows rules before xs → FitsRows rules before ys → MeetAll ws (items_of_rows xs ++ says (codes "ENDSEC") ∷ b)
    → MeetAll ws (items_of_rows ys ++ says (codes "ENDSEC") ∷ d)
    → (xs ≡ ys) × (v : List Lookahead) × MeetAll v b × MeetAll v d
same_rows [] [] rules before b d ws f g h k = let r =
    both_first (says (codes "ENDSEC")) (says (codes "ENDSEC")) b d ws h
    k in (refl, r.1, r.4, r.5)
same_rows [] (y ∷ ys) rules before b d [] f g h k = absurd h
same_rows [] (y ∷ ys) rules before b d (s ∷ ws) f g h k = absurd (name_not_word s y.name (codes "ENDSEC") k.0 h.0)
same_rows (x ∷ xs) ys rules before b d [] f g h k = absurd h
same_rows (x ∷ xs) [] rules before b d (s ∷ ws) f g h k = absurd (name_not_word s x.name (codes "ENDSEC") h.0 k.0)
same_rows (x ∷ xs) (y ∷ ys) rules before b d (s ∷ []) f g h k = absurd h.1
same_rows (x ∷ xs) (y ∷ ys) rules before b d (s ∷ e ∷ ws) f g h k =
    let semi = this (mark Semicolon) in
    let more = items_of_rows xs ++ says (codes "ENDSEC") ∷ b in
    let others = items_of_rows ys ++ says (codes "ENDSEC") ∷ d in
    let a = regroup (items_of_row x) (items_of_rows xs) (says (codes "ENDSEC") ∷ b) (s ∷ e ∷ ws) h in
    let c = regroup (items_of_row y) (items_of_rows ys) (says (codes "ENDSEC") ∷ d) (s ∷ e ∷ ws) k in
    let r = same_front rules (Body ∷ []) (items_of_form x.form) (semi ∷ more) (items_of_form y.form) (semi ∷ others) ws
    (pass_form rules x.form f.2) (pass_form rules y.form g.2)
    (regroup (items_of_form x.form) (semi ∷ []) more ws a.1.1)
    (regroup (items_of_form y.form) (semi ∷ []) others ws c.1.1) in
    let n = same_name s x.name y.name a.0 c.0 in
    let form = same_form x.form y.form rules r.0 f.2 g.2 r.2 r.3 in
    let G : ℕ → Type 0 = λ z. FitsRows rules (before ++ z ∷ []) ys in
    let m = both_first semi semi more others r.1 r.4 r.5 in
    let l = same_rows xs ys rules (before ++ x.name ∷ []) b d m.1 f.3 (subst G (sym n) g.3) m.4 m.5 in
    ((λ i. record { name = n i; form = form i } ∷ l.0 i), l.1, l.2, l.3)

-- what stands behind the word of a data section
abbrev pub headed : Option (List ℕ × List ℕ) → List Item
headed h = items_of_heading h ++ this (mark Semicolon) ∷ []

same_string : (s : Lookahead) (a b : List ℕ) → Meets s (this (string a)) → Meets s (this (string b)) → a ≡ b
same_string s a b h k = let e : string a ≡ string b = same_this s (string a) (string b) h k in cc

same_heading : (x y : Option (List ℕ × List ℕ)) (ws : List Lookahead) → MeetAll ws (headed x) → MeetAll ws (headed y)
    → x ≡ y
same_heading None None ws h k = refl
same_heading None (Some y) [] h k = absurd h
same_heading None (Some y) (s ∷ ws) h k = absurd (one_mark s Open Semicolon k.0 h.0 open_semicolon)
same_heading (Some x) y [] h k = absurd h
same_heading (Some x) None (s ∷ ws) h k = absurd (one_mark s Open Semicolon h.0 k.0 open_semicolon)
same_heading (Some x) (Some y) (s ∷ []) h k = absurd h.1
same_heading (Some x) (Some y) (s ∷ n ∷ []) h k = absurd h.1.1
same_heading (Some x) (Some y) (s ∷ n ∷ c ∷ []) h k = absurd h.1.1.1
same_heading (Some x) (Some y) (s ∷ n ∷ c ∷ o ∷ []) h k = absurd h.1.1.1.1
same_heading (Some x) (Some y) (s ∷ n ∷ c ∷ o ∷ m ∷ ws) h k =
    let name = same_string n x.0 y.0 h.1.0 k.1.0 in
    let schema = same_string m x.1 y.1 h.1.1.1.1.0 k.1.1.1.1.0 in
    (λ i. Some (name i, schema i))

-- a data section isn't the end
end_not_word : (s : Lookahead) (word : List ℕ) → Meets s (this ends) → Meets s (says word) → ⊥
end_not_word s word h k = let P : Lookahead → Type 0 = λ x. Meets x (says word) in subst P (meets_this s ends h) k

-- a data section first, cut behind its heading
first_section : (x : Section) (xs : List Section) (ws : List Lookahead)
    → MeetAll ws ((items_of_heading x.heading ++ this (mark Semicolon) ∷ (items_of_rows x.rows
    ++ section (codes "ENDSEC"))) ++ items_of_sections xs ++ items_of_end)
    → MeetAll ws (headed x.heading ++ (items_of_rows x.rows ++ items_behind xs))
first_section x xs ws h = meet_as ws ((items_of_heading x.heading ++ this (mark Semicolon) ∷ (items_of_rows x.rows
    ++ section (codes "ENDSEC"))) ++ items_of_sections xs ++ items_of_end) (headed x.heading ++ (items_of_rows x.rows
    ++ items_behind xs)) (sym (regroup_sections x xs)) h

-- the data sections, with the end of the file
pub same_rest : (xs ys : List Section) (rules : StructureRules) (names : List ℕ) (ws : List Lookahead)
    → FitsRows rules names (rows_of xs) → FitsRows rules names (rows_of ys)
    → MeetAll ws (items_of_sections xs ++ items_of_end) → MeetAll ws (items_of_sections ys ++ items_of_end) → xs ≡ ys
same_rest [] [] rules names ws f g h k = refl
same_rest [] (y ∷ ys) rules names [] f g h k = absurd h
same_rest [] (y ∷ ys) rules names (s ∷ ws) f g h k = absurd (end_not_word s (codes "DATA") h.0 k.0)
same_rest (x ∷ xs) ys rules names [] f g h k = absurd h
same_rest (x ∷ xs) [] rules names (s ∷ ws) f g h k = absurd (end_not_word s (codes "DATA") k.0 h.0)
same_rest (x ∷ xs) (y ∷ ys) rules names (s ∷ ws) f g h k =
    let a = fits_both rules x.rows (rows_of xs) names f in
    let c = fits_both rules y.rows (rows_of ys) names g in
    let semi = this (mark Semicolon) in
    let b = semi ∷ (items_of_sections xs ++ items_of_end) in
    let d = semi ∷ (items_of_sections ys ++ items_of_end) in
    let r = same_front rules (Behind ∷ []) (headed x.heading) (items_of_rows x.rows ++ items_behind xs)
    (headed y.heading) (items_of_rows y.rows ++ items_behind ys) ws (pass_heading rules x.heading)
    (pass_heading rules y.heading) (first_section x xs ws h.1) (first_section y ys ws k.1) in
    let heading = same_heading x.heading y.heading r.0 r.2 r.3 in
    let lines = same_rows x.rows y.rows rules names b d r.1 a.0 c.0 r.4 r.5 in
    let m = both_first semi semi (items_of_sections xs ++ items_of_end) (items_of_sections ys ++ items_of_end) lines.1
    lines.2 lines.3 in
    let G : List ExchangeRow → Type 0 = λ l. FitsRows rules (names_after names l) (rows_of ys) in
    let more = same_rest xs ys rules (names_after names x.rows) m.1 a.1 (subst G (sym lines.0) c.1) m.4 m.5 in
    (λ i. record { heading = heading i; rows = lines.0 i } ∷ more i)

-- the records of the header, with its end
same_records : (xs ys : List Record) (rules : StructureRules) (ws : List Lookahead) → FitsRecords rules xs → FitsRecords rules ys
    → MeetAll ws (items_of_records xs ++ section (codes "ENDSEC"))
    → MeetAll ws (items_of_records ys ++ section (codes "ENDSEC")) → xs ≡ ys
same_records [] [] rules ws f g h k = refl
same_records [] (y ∷ ys) rules [] f g h k = absurd h
same_records [] (y ∷ ys) rules (s ∷ []) f g h k = absurd h.1
same_records [] (y ∷ ys) rules (s ∷ o ∷ ws) f g h k = absurd (one_mark o Open Semicolon k.1.0 h.1.0 open_semicolon)
same_records (x ∷ xs) ys rules [] f g h k = absurd h
same_records (x ∷ xs) ys rules (s ∷ []) f g h k = absurd h.1
same_records (x ∷ xs) [] rules (s ∷ o ∷ ws) f g h k = absurd (one_mark o Open Semicolon h.1.0 k.1.0 open_semicolon)
same_records (x ∷ xs) (y ∷ ys) rules (s ∷ o ∷ ws) f g h k =
    let end = section (codes "ENDSEC") in
    let semi = this (mark Semicolon) in
    let r = same_record x y rules 0 (semi ∷ (items_of_records xs ++ end)) (semi ∷ (items_of_records ys ++ end))
    (s ∷ o ∷ ws) f.0 g.0 (regroup (items_of_record x) (semi ∷ items_of_records xs) end (s ∷ o ∷ ws) h)
    (regroup (items_of_record y) (semi ∷ items_of_records ys) end (s ∷ o ∷ ws) k) in
    let l = behind r.1 r.2 r.3 (λ ws h k. same_records xs ys rules ws f.1 g.1 h k) in
    (λ i. r.0 i ∷ l i)
  where
    behind : (ws : List Lookahead) → MeetAll ws (this (mark Semicolon) ∷ (items_of_records xs
        ++ section (codes "ENDSEC"))) → MeetAll ws (this (mark Semicolon) ∷ (items_of_records ys
        ++ section (codes "ENDSEC"))) → ((ws : List Lookahead) → MeetAll ws (items_of_records xs
        ++ section (codes "ENDSEC")) → MeetAll ws (items_of_records ys ++ section (codes "ENDSEC")) → xs ≡ ys) → xs ≡ ys
    behind [] h k go = absurd h
    behind (s ∷ ws) h k go = go ws h.1 k.1

-- the header
pub same_header : (xs ys : List Record) (rules : StructureRules) (ws : List Lookahead) → FitsHeader rules xs
    → FitsHeader rules ys
    → MeetAll ws (items_of_header xs) → MeetAll ws (items_of_header ys) → xs ≡ ys
same_header xs ys rules [] f g h k = absurd h
same_header xs ys rules (a ∷ []) f g h k = absurd h.1
same_header xs ys rules (a ∷ b ∷ []) f g h k = absurd h.1.1
same_header xs ys rules (a ∷ b ∷ c ∷ []) f g h k = absurd h.1.1.1
same_header xs ys rules (a ∷ b ∷ c ∷ d ∷ ws) f g h k = same_records xs ys rules ws f.0 g.0 h.1.1.1.1 k.1.1.1.1

-- the first two records of the header
pub same_two : (p q x y : Record) (rules : StructureRules) (b d : List Item) (ws : List Lookahead)
    → FitsRecords rules (p ∷ q ∷ []) → FitsRecords rules (x ∷ y ∷ [])
    → MeetAll ws (items_of_record p ++ this (mark Semicolon) ∷ (items_of_record q ++ this (mark Semicolon) ∷ b))
    → MeetAll ws (items_of_record x ++ this (mark Semicolon) ∷ (items_of_record y ++ this (mark Semicolon) ∷ d))
    → (p ≡ x) × (q ≡ y) × (v : List Lookahead) × MeetAll v b × MeetAll v d
same_two p q x y rules b d ws f g h k =
    let semi = this (mark Semicolon) in
    let r = same_record p x rules 0 (semi ∷ (items_of_record q ++ semi ∷ b)) (semi ∷ (items_of_record y ++ semi ∷ d)) ws
    f.0 g.0 h k in
    let s = semicolon (items_of_record q ++ semi ∷ b) (items_of_record y ++ semi ∷ d) r.1 r.2 r.3 in
    let t = same_record q y rules 0 (semi ∷ b) (semi ∷ d) s.0 f.1.0 g.1.0 s.1 s.2 in
    let u = semicolon b d t.1 t.2 t.3 in
    (r.0, t.0, u.0, u.1, u.2)
  where
    semicolon : (b d : List Item) (ws : List Lookahead) → MeetAll ws (this (mark Semicolon) ∷ b)
        → MeetAll ws (this (mark Semicolon) ∷ d) → (v : List Lookahead) × MeetAll v b × MeetAll v d
    semicolon b d [] h k = absurd h
    semicolon b d (s ∷ ws) h k = (ws, h.1, k.1)

-- the third record of the header is the same
pub same_third : (r z : Record) (rules : StructureRules) (ws : List Lookahead) → FitsRecord rules 0 r → FitsRecord rules 0 z
    → MeetAll ws (items_of_record r) → MeetAll ws (items_of_record z) → r ≡ z
same_third r z rules ws f g h k = (same_record r z rules 0 [] [] ws f g (none_behind r ws h) (none_behind z ws k)).0
