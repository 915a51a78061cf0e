-- The header, and what is kept of it.
use Rattle.std.proofs.Common.{◌≡◌, ℕ, ◌<◌, Bool, true, false, List, [], ◌∷◌, ◌++◌, length, map, sym, ap, ◌∙◌, subst, append_assoc, codes}
use Rattle.std.proofs.lemmas.List.{map-append}
use Rattle.step_lexer.specs.declared.token.Mark.TheVariants.{Open, Semicolon}
use Rattle.step_lexer.specs.declared.token.Token.{Token}
use Rattle.step_lexer.specs.Reading.{Reading, Takes, left}
use Rattle.step_records.specs.steps.Building.{list_of}
use Rattle.step_records.specs.Cells.{all_of}
use Rattle.step_records.specs.steps.Tokens.{leaf_tree}
use Rattle.step_structures.specs.declared.fault.TextFault.{TextFault}
use Rattle.step_structures.specs.Words.{keyword, mark, token, located}
use Rattle.step_structures.specs.Trees.{Tree, leaf, Record, this, is_said, items_of_record, items_of_list}
use Rattle.step_structures.specs.Fits.{NamesSchema}
use Rattle.step_structures.specs.steps.Predict.{Just, Head, Records, Items, is_mark}
use Rattle.step_records.specs.steps.Readers.{Progress, reading}
use Rattle.step_records.specs.steps.Steps.{StopsIn, Passes, PushesAll, TakesItems}
use Rattle.step_records.specs.steps.Records.{tree_of_record, TakesRecord}
use Rattle.step_records.proofs.Pushing.{pushes_over}
use Rattle.step_records.proofs.Recording.{record_with, with_kept, kept_list}
use Rattle.step_exchange.specs.steps.Steps.{TakesHead, StopsAtSchema, after_keyword, StopsInHeader}
use Rattle.step_exchange.specs.steps.Keeping.{Keeps, BeginsHeader, KeepsHead, KeepsLine, KeepsSchema, PushesKeyed, EndsKeyed, TakesKeyed, KeepsRecord, EndsRecords, TakesNext, KeepsSoFar, KeepsHeader}
use Rattle.step_exchange.proofs.HeadSteps.{Ends, head_done, record_done, schema_done, keyed_other, keyed_err_items, keyed_ended, keyed_end, more_err_mark, more_done, more_end, opening_err_first, opening_err_second, opening_err_third, opening_done, header_next, header_err, header_done, header_smaller}

-- a record that is pending as its keyword and its parameters is kept whole
record_kept : (text : List ℕ) (t : Token) (m : ℕ) (old c d : Progress) (xs : List Tree) → m ≡ length old.built.pending
    → leaf_tree t ≡ leaf (keyword text) → PushesAll old (leaf_tree t ∷ xs) c → d ≡ with_kept m c
    → Keeps old (record_with text xs ∷ []) d × (reading d ≡ reading c)
record_kept text t m old c d xs size key h ed =
    let k = kept_list m old c d (leaf_tree t ∷ xs) size h ed in
    (k.0 ∙ (λ i. record old.built { kept = old.built.kept ++ list_of (key i ∷ xs) ∷ [] }), k.1)

pub head_kept : (word text : List ℕ) (t : Token) (m : ℕ) (old a b d : Progress) → m ≡ length old.built.pending
    → Takes (reading old) t (reading a) → a.built ≡ old.built → (located t).lookahead ≡ token (keyword text)
    → leaf_tree t ≡ leaf (keyword text) → is_said word text ≡ true → TakesRecord 0 t a b → d ≡ with_kept m b
    → KeepsHead word t.place old d
head_kept word text t m old a b d size h e is key said v ed =
    let p = record_with text v.trees in
    let k = record_kept text t m old b d v.trees size key (v.pushes ∙ pushes_over a.built old.built
    (leaf_tree t ∷ v.trees) e) ed in
    let P : Reading → Type 0 = λ r. TakesHead word (reading old) p t.place r in
    let head = head_done word t p (reading old) (reading a) (reading b) h is said (v.fits, v.passes) in
    record { p = p; keeps = k.0; takes = subst P (sym k.1) head }

pub line_kept : (word : List ℕ) (place : ℕ) (old a b : Progress) → KeepsHead word place old a → b.built ≡ a.built
    → Ends (reading a) (reading b) → KeepsLine word old b
line_kept word place old a b h e m =
    let done = record_done word (reading old) h.p place (reading a) (reading b) h.takes m in
    record { p = h.p; keeps = e ∙ h.keeps; is = done.0; passes = done.1 }

pub schema_kept : (place : ℕ) (old a b : Progress) (t : Token) → (h : KeepsHead (codes "FILE_SCHEMA") place old a)
    → Takes (reading a) t (reading b) → b.built ≡ a.built → is_mark Semicolon (located t).lookahead ≡ true
    → NamesSchema h.p.values → KeepsSchema old b
schema_kept place old a b t h g e m n =
    let done = schema_done (reading old) h.p place (reading a) t (reading b) h.takes g m n in
    record { line = record { p = h.p; keeps = e ∙ h.keeps; is = done.0.0; passes = done.1 }; named = n }

-- behind the keyword of one more record
pub keyed_params : (t : Token) (text : List ℕ) (old b : Progress) → is_said (codes "ENDSEC") text ≡ false
    → TakesRecord 0 t old b → PushesKeyed t text old b
keyed_params t text old b o v =
    let k = keyed_other text (reading old) (all_of v.trees) (reading b) o (v.fits, v.passes) in
    record { trees = v.trees; pushes = v.pushes; fits = k.0; passes = k.1 }

pub keyed_items : (t behind : Token) (text : List ℕ) (old a b c : Progress) → is_said (codes "ENDSEC") text ≡ true
    → Takes (reading old) behind (reading a) → a.built ≡ old.built → is_mark Open (located behind).lookahead ≡ true
    → b ≡ record a { built = record a.built { pending = a.built.pending ++ leaf_tree t ∷ [] } } → TakesItems 1 b c
    → PushesKeyed t text old c
keyed_items t behind text old a b c o h e m eb v =
    let from : reading b ≡ reading a = ap reading eb in
    let ps = old.built.pending in
    let first : b.built ≡ record old.built { pending = ps ++ leaf_tree t ∷ [] } =
    ap (λ p. p.built) eb ∙ pushes_over a.built old.built (leaf_tree t ∷ []) e in
    let all : c.built ≡ record old.built { pending = (ps ++ leaf_tree t ∷ []) ++ v.trees } =
    v.pushes ∙ pushes_over b.built (record old.built { pending = ps ++ leaf_tree t ∷ [] }) v.trees first in
    let P : Reading → Type 0 = λ r. Passes (Items 1 ∷ []) [] [] (items_of_list (all_of v.trees)) r (reading c) in
    let k = keyed_ended text behind (reading old) (reading a) (all_of v.trees) (reading c) o h m
    (v.fits, subst P from v.passes) in
    record {
      trees = v.trees;
      pushes = all ∙ ap {A = List Tree} (λ l. record old.built { pending = l }) (append_assoc ps (leaf_tree t ∷ [])
          v.trees);
      fits = k.0;
      passes = k.1;
    }

pub keyed_stops : (e : TextFault) (text : List ℕ) (t behind : Token) (old a b : Progress)
    → is_said (codes "ENDSEC") text ≡ true → Takes (reading old) behind (reading a)
    → is_mark Open (located behind).lookahead ≡ true
    → b ≡ record a { built = record a.built { pending = a.built.pending ++ leaf_tree t ∷ [] } }
    → StopsIn e (Items 1 ∷ []) [] (reading b) → StopsIn e (after_keyword text) [] (reading old)
keyed_stops e text t behind old a b o h m eb g =
    let P : Reading → Type 0 = λ r. StopsIn e (Items 1 ∷ []) [] r in
    keyed_err_items e text behind (reading old) (reading a) o h m (subst P (ap reading eb) g)

pub keyed_over : (behind : Token) (text : List ℕ) (old a : Progress) → is_said (codes "ENDSEC") text ≡ true
    → Takes (reading old) behind (reading a) → a.built ≡ old.built
    → is_mark Semicolon (located behind).lookahead ≡ true → EndsKeyed text old a
keyed_over behind text old a o h e m =
    let k = keyed_end text behind (reading old) (reading a) o h m in
    record { same = e; ends = k.0; passes = k.1 }

-- whichever it is
pub is_keyed : (b : Bool) (t : Token) (text : List ℕ) (old new : Progress) → b ≡ true → TakesKeyed b t text old new
    → PushesKeyed t text old new
is_keyed true t text old new e h = h
is_keyed false t text old new e h = absurd (cc)

pub is_over : (b : Bool) (t : Token) (text : List ℕ) (old new : Progress) → b ≡ false → TakesKeyed b t text old new
    → EndsKeyed text old new
is_over false t text old new e h = h
is_over true t text old new e h = absurd (cc)

pub is_record : (b : Bool) (old new : Progress) → b ≡ true → TakesNext b old new → KeepsRecord old new
is_record true old new e h = h
is_record false old new e h = absurd (cc)

pub is_last : (b : Bool) (old new : Progress) → b ≡ false → TakesNext b old new → EndsRecords old new
is_last false old new e h = h
is_last true old new e h = absurd (cc)

-- one more record
pub record_more : (t : Token) (text : List ℕ) (m : ℕ) (old a b c d : Progress) → m ≡ length old.built.pending
    → Takes (reading old) t (reading a) → a.built ≡ old.built → (located t).lookahead ≡ token (keyword text)
    → leaf_tree t ≡ leaf (keyword text) → PushesKeyed t text a b → c.built ≡ b.built → Ends (reading b) (reading c)
    → d ≡ with_kept m c → KeepsRecord old d
record_more t text m old a b c d size h e is key v f g ed =
    let k = record_kept text t m old c d v.trees size key (f ∙ v.pushes ∙ pushes_over a.built old.built
    (leaf_tree t ∷ v.trees) e) ed in
    let p = record_with text v.trees in
    let P : Reading → Type 0 = λ r. Passes (Records ∷ []) (Records ∷ []) [] (items_of_record p
    ++ this (mark Semicolon) ∷ []) (reading old) r in
    let one = more_done t text (reading old) (reading a) (all_of v.trees) (reading b) (reading c) h is
    (v.fits, v.passes) g in
    record { p = p; keeps = k.0; fits = one.0; passes = subst P (sym k.1) one.1 }

pub record_stops : (e : TextFault) (t : Token) (text : List ℕ) (old a b : Progress)
    → Takes (reading old) t (reading a) → (located t).lookahead ≡ token (keyword text) → PushesKeyed t text a b
    → StopsIn e (Just Semicolon ∷ []) [] (reading b) → StopsIn e (Records ∷ []) [] (reading old)
record_stops e t text old a b h is v g = more_err_mark e t text (reading old) (reading a) (all_of v.trees) (reading b) h
    is (v.fits, v.passes) g

pub records_over : (t : Token) (text : List ℕ) (old a b : Progress) → Takes (reading old) t (reading a)
    → a.built ≡ old.built → (located t).lookahead ≡ token (keyword text) → EndsKeyed text a b → EndsRecords old b
records_over t text old a b h e is v = record {
  same = v.same ∙ e;
  passes = more_end t text (reading old) (reading a) (reading b) h is (v.ends, v.passes);
}

-- records kept behind others
keeps_join : (old a b : Progress) (ps qs : List Record) → Keeps old ps a → Keeps a qs b → Keeps old (ps ++ qs) b
keeps_join old a b ps qs h g =
    let k = old.built.kept in
    let all : (k ++ map tree_of_record ps) ++ map tree_of_record qs ≡ k ++ map tree_of_record (ps ++ qs) =
    append_assoc k (map tree_of_record ps) (map tree_of_record qs)
    ∙ ap (λ l. k ++ l) (sym (map-append tree_of_record ps qs)) in
    g ∙ (λ i. record (h i) { kept = (h i).kept ++ map tree_of_record qs }) ∙ (λ i. record old.built { kept = all i })

keeps_from : (old a b : Progress) (ps : List Record) → a.built ≡ old.built → Keeps a ps b → Keeps old ps b
keeps_from old a b ps e h = h ∙ (λ i. record (e i) { kept = (e i).kept ++ map tree_of_record ps })

-- the opening
pub opening_kept : (place : ℕ) (old a b c d : Progress) → BeginsHeader place old a
    → KeepsLine (codes "FILE_DESCRIPTION") a b → KeepsLine (codes "FILE_NAME") b c → KeepsSchema c d
    → KeepsSoFar old place d
opening_kept place old a b c d s p q r = record {
  header = p.p ∷ q.p ∷ r.line.p ∷ [];
  keeps = keeps_from old a d (p.p ∷ q.p ∷ r.line.p ∷ []) s.same (keeps_join a b d (p.p ∷ []) (q.p ∷ r.line.p ∷ [])
      p.keeps (keeps_join b c d (q.p ∷ []) (r.line.p ∷ []) q.keeps r.line.keeps));
  so = opening_done (reading old) place (reading a) p.p (reading b) q.p (reading c) r.line.p (reading d) s.starts
      (p.is, p.passes) (q.is, q.passes) ((r.line.is, r.named), r.line.passes);
}

pub first_stops : (e : TextFault) (place : ℕ) (old a : Progress) → BeginsHeader place old a
    → StopsIn e (Head (codes "FILE_DESCRIPTION") ∷ Just Semicolon ∷ []) [] (reading a) → StopsInHeader e (reading old)
first_stops e place old a s g = opening_err_first e (reading old) place (reading a) s.starts g

pub second_stops : (e : TextFault) (place : ℕ) (old a b : Progress) → BeginsHeader place old a
    → KeepsLine (codes "FILE_DESCRIPTION") a b
    → StopsIn e (Head (codes "FILE_NAME") ∷ Just Semicolon ∷ []) [] (reading b) → StopsInHeader e (reading old)
second_stops e place old a b s p g = opening_err_second e (reading old) place (reading a) p.p (reading b) s.starts
    (p.is, p.passes) g

pub third_stops : (e : TextFault) (place : ℕ) (old a b c : Progress) → BeginsHeader place old a
    → KeepsLine (codes "FILE_DESCRIPTION") a b → KeepsLine (codes "FILE_NAME") b c → StopsAtSchema e (reading c)
    → StopsInHeader e (reading old)
third_stops e place old a b c s p q g = opening_err_third e (reading old) place (reading a) p.p (reading b) q.p
    (reading c) s.starts (p.is, p.passes) (q.is, q.passes) g

-- the other records
pub header_more : (place : ℕ) (old here new : Progress) → KeepsSoFar old place here → KeepsRecord here new
    → KeepsSoFar old place new
header_more place old here new s v = record {
  header = s.header ++ v.p ∷ [];
  keeps = keeps_join old here new s.header (v.p ∷ []) s.keeps v.keeps;
  so = header_next (reading old) place s.header (reading here) v.p (reading new) s.so (v.fits, v.passes);
}

pub header_stops : (e : TextFault) (place : ℕ) (old here : Progress) → KeepsSoFar old place here
    → StopsIn e (Records ∷ []) [] (reading here) → StopsInHeader e (reading old)
header_stops e place old here s g = header_err e (reading old) place s.header (reading here) s.so g

pub header_over : (place : ℕ) (old here new : Progress) → KeepsSoFar old place here → EndsRecords here new
    → KeepsHeader old place new
header_over place old here new s v = record {
  header = s.header;
  keeps = v.same ∙ s.keeps;
  takes = header_done (reading old) place s.header (reading here) (reading new) s.so v.passes;
}

pub header_less : (here new : Progress) → KeepsRecord here new
    → length (left (reading new)) < length (left (reading here))
header_less here new v = header_smaller (reading here) v.p (reading new) (v.fits, v.passes)
