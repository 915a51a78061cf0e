-- How far an answer comes.
use Rattle.std.specs.Prelude.{◌≡◌, ◌≢◌, ◌↔◌, ℕ, IsTrue, List, [], Result, Ok, Err}
use Rattle.std.proofs.Common.{refl, sym, ap, subst, ◌∙◌, inl, inr}
use Rattle.step_structures.specs.Trees.{File}
use Rattle.step_structures.proofs.Once.{reads_once}
use Rattle.value_equality.specs.Rows.{Row}
use Rattle.value_equality.specs.Tables.{Table}
use Rattle.express_syntax.specs.Schemas.{Schema}
use Rattle.conformance.specs.Choices.{Choice, merge_options, MergeOptions}
use Rattle.conformance.specs.Findings.{findings}
use Rattle.conformance.specs.Pins.{IsGentlyPinned}
use Rattle.conformance.specs.SchemaMeanings.{Said, instances, FileConforms}
use Rattle.certificate_text.specs.Texts.{IsCertificate}
use Rattle.files.specs.declared.fault.Role.TheVariants as roles
use Rattle.reports.specs.declared.refusal.Refusal.{Refusal}
use Rattle.reports.specs.declared.refusal.Refusal.TheVariants.{OldVersion, BadText, WrongNames, GroundlessSplit, Unstable, NotTheImage}
use Rattle.reports.specs.declared.fault.Fault.{Fault}
use Rattle.reports.specs.declared.fault.Fault.TheVariants as faults
use Rattle.verifying.specs.declared.proof.Proof.{Proof}
use Rattle.verifying.specs.Verifying.{Settles, IsConformingInput, IsOutput, AreRows, BothHold, IsMergedOutput, TablesLack, IsRefused, IsAccepted, Proves, Verifies}
use Rattle.verifying.proofs.Levels.{AtTables, AtText, AtSchema}

module _ (s : Schema) (chosen : MergeOptions) (f g : File) (certificate : List ℕ) (r : Result Proof Fault) where
  lacking : (refusal : Refusal) → r ≡ Err (faults.Certificate refusal) → TablesLack s chosen f certificate refusal
      → (said : Said s) → AtTables s said chosen f g r certificate
  lacking refusal e (inl (j, lacks)) said = (
    j.first,
    j.second,
    j.certificate_is,
    j.rows,
    j.are_rows.are said,
    j.weak,
    j.are_weak said,
    inl (refusal, e, lacks),
  )
  lacking refusal e (inr (h, lacks)) said =
      let j = h.judged in (
        j.first,
        j.second,
        j.certificate_is,
        j.rows,
        j.are_rows.are said,
        j.weak,
        j.are_weak said,
        inr (h.valid, h.gentle, h.are_gentle said, inl (refusal, e, lacks)),
      )

  no_image : r ≡ Err (faults.Certificate NotTheImage) → (b : BothHold s chosen f certificate) (image : List Row)
      → AreRows s g image → (IsMergedOutput s chosen f certificate b g image → ⊥) → (said : Said s)
      → AtTables s said chosen f g r certificate
  no_image e b image are other said =
      let h = b.held in
      let j = h.judged in (
        j.first,
        j.second,
        j.certificate_is,
        j.rows,
        j.are_rows.are said,
        j.weak,
        j.are_weak said,
        inr (h.valid, h.gentle, h.are_gentle said, inr (b.valid, inl (e, image, are.are said, other))),
      )

  refused : (refusal : Refusal) → r ≡ Err (faults.Certificate refusal) → IsRefused s chosen f g certificate refusal
      → (said : Said s) → AtText s said chosen f g r certificate
  refused OldVersion e h said = inl (e, h)
  refused (BadText line) e h said = inr (inl (line, e, h.0, h.1))
  refused WrongNames e h said = inr (inr (lacking WrongNames e h said))
  refused GroundlessSplit e h said = inr (inr (lacking GroundlessSplit e h said))
  refused Unstable e h said = inr (inr (lacking Unstable e h said))
  refused NotTheImage e h said = inr (inr (no_image e h.0 h.1 h.2 h.3 said))

-- by the functions of one proof
accepted : (s : Schema) (said : Said s) (chosen : MergeOptions) (input output certificate : List ℕ)
    (r : Result Proof Fault) (p : Proof) → r ≡ Ok p → (first second : Table)
    → IsCertificate certificate first second → (a : IsAccepted s said chosen input output first second p)
    → AtText s said chosen a.checked.input.file a.checked.file r certificate
accepted s said chosen input output certificate r p e first second text a =
    let k = a.checked in
    let i = k.input in
    inr (inr (
      k.first,
      k.second,
      subst (λ t. IsCertificate certificate t k.second) (sym a.first_is)
          (subst (λ t. IsCertificate certificate first t) (sym a.second_is) text),
      i.rows,
      i.are_rows,
      i.pins.weak,
      i.pins.are_weak,
      inr (
        k.first_valid,
        i.pinned,
        subst (λ E. (y : ℕ) → IsTrue (i.pinned y)
            ↔ IsGentlyPinned s said.domain said.entities said.rules chosen (instances s said i.file) E y) k.gentle
            i.pins.are_gentle,
        inr (
          k.second_valid,
          inr (
            p,
            e,
            k.rows,
            k.are_rows,
            (k.same, a.headings),
            a.instances,
            a.kept,
            a.rounds
                ∙ sym (ap (λ (t : Table). t.rounds) a.second_is),
          ),
        ),
      ),
    ))

module _ (s : Schema) (chosen : MergeOptions) (input output certificate : List ℕ) (p : Proof)
    (proves : Proves s chosen input output certificate p) where
  abbrev by : (said : Said s) → IsAccepted s said chosen input output proves.first proves.second p
  by said = proves.accepted said

  abbrev f : File
  f = (by proves.some).checked.input.file

  abbrev g : File
  g = (by proves.some).checked.file

  one_input : (said : Said s) → (by said).checked.input.file ≡ f
  one_input said =
      let i = (by said).checked.input in
      let j = (by proves.some).checked.input in
      (reads_once input i.header_bytes j.header_bytes i.file j.file i.reads j.reads).1

  one_output : (said : Said s) → (by said).checked.file ≡ g
  one_output said =
      let i = (by said).checked in
      let j = (by proves.some).checked in
      (reads_once output i.header_bytes j.header_bytes i.file j.file i.reads j.reads).1

  input_is : IsConformingInput s chosen.other_names input f
  input_is = record {
    header_bytes = (by proves.some).checked.input.header_bytes;
    reads = (by proves.some).checked.input.reads;
    some = proves.some;
    conforms = λ said. subst (FileConforms s said chosen.other_names) (one_input said) (by said).checked.input.conforms;
  }

  output_is : IsOutput s chosen.other_names output g
  output_is = record {
    header_bytes = (by proves.some).checked.header_bytes;
    reads = (by proves.some).checked.reads;
    nothing = λ said. subst (λ x. findings s said.domain said.entities chosen.other_names x ≡ []) (one_output said)
        (by said).checked.nothing;
  }

  proved : (r : Result Proof Fault) → r ≡ Ok p → (said : Said s) → AtText s said chosen f g r certificate
  proved r e said =
      subst (λ x. AtText s said chosen f x r certificate) (one_output said)
      (subst (λ x. AtText s said chosen x (by said).checked.file r certificate) (one_input said)
      (accepted s said chosen input output certificate r p e proves.first proves.second proves.certificate_is (by said)))

module _ (schema input output certificate : List ℕ) (choice : Choice) where
  with_proof : (p : Proof) (s : Schema) → Settles schema choice s
      → Proves s (merge_options s choice) input output certificate p
      → AtSchema schema input output certificate choice (Ok p)
  with_proof p s settles proves =
      let chosen = merge_options s choice in
      let i = input_is s chosen input output certificate p proves in
      let o = output_is s chosen input output certificate p proves in
      inr (
        s,
        settles,
        inr (
          i.header_bytes,
          f s chosen input output certificate p proves,
          i.reads,
          inr (
            i,
            inr (
              o.header_bytes,
              g s chosen input output certificate p proves,
              o.reads,
              inr (o, proved s chosen input output certificate p proves (Ok p) refl),
            ),
          ),
        ),
      )

  pub reached : (r : Result Proof Fault) → Verifies schema input output certificate choice r
      → r ≢ Err faults.Memory → AtSchema schema input output certificate choice r
  reached (Ok p) h n = with_proof p h.0 h.1 h.2
  reached (Err (faults.Schema fault)) h n = inl (fault, refl, h)
  reached (Err (faults.Text roles.File kind place)) h n =
      inr (h.0, h.1, inl (kind, place, refl, h.2))
  reached (Err (faults.Refused roles.File fs gs)) (s, settles, (header_bytes, f, reads, unknown, are, some)) n =
      inr (s, settles, inr (header_bytes, f, reads, inl (fs, gs, refl, unknown, are, some)))
  reached (Err (faults.Text roles.Output kind place)) (s, settles, (f, input_is, h)) n =
      inr (s, settles, inr (input_is.header_bytes, f, input_is.reads, inr (input_is, inl (kind, place, refl, h))))
  reached (Err (faults.Refused roles.Output fs gs)) (s, settles, (f, input_is, (header_bytes, g, reads, same, some, none))) n =
      inr (
        s,
        settles,
        inr (
          input_is.header_bytes,
          f,
          input_is.reads,
          inr (input_is, inr (header_bytes, g, reads, inl (fs, gs, refl, same, some, none))),
        ),
      )
  reached (Err (faults.Certificate refusal)) (s, settles, (f, input_is, (g, output_is, h))) n =
      inr (
        s,
        settles,
        inr (
          input_is.header_bytes,
          f,
          input_is.reads,
          inr (
            input_is,
            inr (
              output_is.header_bytes,
              g,
              output_is.reads,
              inr (
                output_is,
                refused s (merge_options s choice) f g certificate (Err (faults.Certificate refusal)) refusal refl h,
              ),
            ),
          ),
        ),
      )
  reached (Err faults.Memory) h n = absurd (n refl)
  reached (Err (faults.Text roles.Schema kind place)) h n = absurd h
  reached (Err (faults.Text roles.Certificate kind place)) h n = absurd h
  reached (Err (faults.Unchecked parts)) h n = absurd h
  reached (Err (faults.Findings report)) h n = absurd h
  reached (Err (faults.Device role written)) h n = absurd h
  reached (Err (faults.Refused roles.Schema fs gs)) h n = absurd h
  reached (Err (faults.Refused roles.Certificate fs gs)) h n = absurd h
