-- What a section's function owes, by what its parts show.
use Rattle.std.proofs.Common.{map, ◌≡◌, ℕ, ◌+◌, ◌<◌, ◌≤◌, ◌^◌, List, [], ◌∷◌, ◌++◌, ap, sym, ◌∙◌, refl, subst, take, drop, get_or, length, Option, Some, None}
use Rattle.std.proofs.lemmas.List.{take_more}
use Rattle.entry_model.specs.State.{State}
use Rattle.entry_model.specs.History.{pair_of}
use Rattle.entry_model.specs.Fronts.{front_at, opening_fronts}
use Rattle.tlb_model.specs.Processor.{Processor}
use Rattle.trace_line.specs.declared.line.TraceLine.{TraceLine}
use Rattle.trace_reply.specs.declared.reply.Reply.{Reply}
use Rattle.history_check.specs.declared.mark_steps.LineStep.{LineStep}
use Rattle.history_check.specs.PlacedSteps.{PlacedStep, FindStates}
use Rattle.history_check.specs.OrderedSteps.{numbered, numbered_by}
use Rattle.trace_line.specs.Lines.{AreOnProcessors}
use Rattle.run_model.specs.Quiet.{NoneQuiet}
use Rattle.history_check.specs.FoundSection.{Opening, HasSection, HasNoSection, TellsSection}
use Rattle.history_check.specs.JudgedLines.{judged, AreReplied, TellsLines}
use Rattle.history_check.specs.SectionMarks.{ReadMarks, NoMarks}
use Rattle.history_check.proofs.Short.{LowStates}
use Rattle.history_check.proofs.WholeSection.{told_section, no_marks, no_replies}
use Rattle.hpte_fields.specs.TableSize.{entry_count, greatest_order}

-- ---- what the parts show of one opening
-- What is asked of the opening.
pub record IsOpening (o : Opening) (ls : List TraceLine) : Type 0 where
  pub plain : NoneQuiet ls
  pub cpus : AreOnProcessors (length o.processors) ls
  pub few : length o.states ≤ entry_count greatest_order
  pub low : LowStates o.states

-- The marks that were read, and the states that their steps find.
pub record HasSteps (o : Opening) (ls : List TraceLine) (given : List ℕ) (steps : List LineStep)
    (counts : List ℕ) (listed closing : List State) :
    Type 0 where
  pub read : ReadMarks o.context (length o.states) ls given steps counts
  pub find :
      (xs : List PlacedStep)
      → map (numbered_by ls) steps ≡ numbered 0 xs
      → FindStates o.states xs listed closing

abbrev Replied :
    Opening
    → List TraceLine
    → List ℕ
    → List ℕ
    → List State
    → List State
    → List Reply
    → List ℕ
    → List Processor
    → Type 0
Replied o ls given counts listed closing rs rest later =
    AreReplied (judged o.context closing ls counts listed) o.processors
    (λ cpu e. front_at (opening_fronts o.states) e) given rs rest later

section_has :
    (o : Opening) (ls : List TraceLine) (given : List ℕ) (steps : List LineStep) (counts : List ℕ)
    (listed closing : List State) (n : ℕ) (later : List Processor)
    → IsOpening o ls
    → HasSteps o ls given steps counts listed closing
    → (rs : List Reply) × Replied o ls given counts listed closing rs (drop n given) later
    → HasSection o ls given n closing later
section_has o ls given steps counts listed closing n later is has h =
    told_section o ls given n closing later is.plain is.cpus
    (record {
      steps = steps;
      counts = counts;
      listed = listed;
      read = has.read;
      find = has.find;
      replies = h.0;
      replied = h.1;
    })

section_has_not :
    (o : Opening) (ls : List TraceLine) (given : List ℕ) (steps : List LineStep) (counts : List ℕ)
    (listed closing : List State)
    → IsOpening o ls
    → HasSteps o ls given steps counts listed closing
    →
    ((rs : List Reply) (rest : List ℕ) (later : List Processor)
    → Replied o ls given counts listed closing rs rest later
    → ⊥)
    → HasNoSection o ls given
section_has_not o ls given steps counts listed closing is has none =
    no_replies o ls given steps counts listed closing is.plain is.cpus is.few is.low has.read
    has.find none

pub marks_has_not :
    (o : Opening) (ls : List TraceLine) (given : List ℕ)
    → IsOpening o ls
    → NoMarks o.context (length o.states) ls given
    → HasNoSection o ls given
marks_has_not o ls given is none = no_marks o ls given is.plain is.cpus is.few is.low none

-- ---- as `judge_lines` states it
-- with the opening's pairs, the closing states and the states found as the code has them
abbrev Judges :
    Opening
    → List TraceLine
    → List ℕ
    → List ℕ
    → List ℕ
    → List State
    → List State
    → List Reply
    → List ℕ
    → List Processor
    → Type 0
Judges o ls given counts opening found closed rs rest later =
    AreReplied (judged o.context closed ls counts found) o.processors (λ cpu e. front_at opening e)
    given rs rest later

pub lines_told :
    (o : Opening) (ls : List TraceLine) (given : List ℕ) (steps : List LineStep)
    (counts opening : List ℕ) (listed found closing closed : List State)
    (later : List Processor) (j : Option ℕ)
    → IsOpening o ls
    → HasSteps o ls given steps counts listed closing
    → opening ≡ opening_fronts o.states
    → found ≡ listed
    → closed ≡ closing
    → TellsLines (judged o.context closed ls counts found) o.processors
    (λ cpu e. front_at opening e) given j later
    → TellsSection o ls given j closing later
lines_told o ls given steps counts opening listed found closing closed later (Some n) is has pairs f
    c h = (
      h.0,
      section_has o ls given steps counts listed closing n later is has (
        h.1.0,
        subst
            (λ (z : List ℕ × List State × List State).
            Judges o ls given counts z.0 z.1 z.2 h.1.0 (drop n given) later)
            (λ i. (pairs i, f i, c i)) h.1.1,
      ),
    )
lines_told o ls given steps counts opening listed found closing closed later None is has pairs f c h
    =
    section_has_not o ls given steps counts listed closing is has
    (λ rs rest later k.
    h rs rest later
    (subst
    (λ (z : List ℕ × List State × List State).
    Judges o ls given counts z.0 z.1 z.2 rs rest later)
    (λ i. (sym pairs i, sym f i, sym c i)) k))

-- ---- the pairs of the opening states
pub pairs_more :
    (pairs more : List ℕ) (ss : List State) (i : ℕ) (s : State)
    → i < length ss
    → s ≡ get_or ss i s
    → pairs ≡ opening_fronts (take i ss)
    → more ≡ pairs ++ pair_of s ∷ []
    → more ≡ opening_fronts (take (i + 1) ss)
pairs_more pairs more ss i s low at told push =
    push
    ∙ ap (λ z. z ++ pair_of s ∷ []) told
    ∙ sym
    (ap opening_fronts (take_more ss i s low ∙ ap (λ z. take i ss ++ z ∷ []) (sym at))
    ∙ map_append (take i ss) (s ∷ [])) where
      map_append :
          (xs ys : List State) → opening_fronts (xs ++ ys) ≡ opening_fronts xs ++ opening_fronts ys
      map_append [] ys = refl
      map_append (x ∷ xs) ys = ap (λ l. pair_of x ∷ l) (map_append xs ys)

pub low_more :
    (ss : List State) (i : ℕ) (s : State)
    → i < length ss
    → s ≡ get_or ss i s
    → LowStates (take i ss)
    → s.stamp < 2 ^ 32
    → LowStates (take (i + 1) ss)
low_more ss i s low at told here =
    subst LowStates (sym (take_more ss i s low ∙ ap (λ z. take i ss ++ z ∷ []) (sym at)))
    (both (take i ss) told) where
      both : (xs : List State) → LowStates xs → LowStates (xs ++ s ∷ [])
      both [] h = (here, tt)
      both (x ∷ xs) h = (h.0, both xs h.1)
