-- What is written for the first records of an input, record by record.
use Rattle.olr_batch.proofs.Common.{◌≡◌, Bor, ℕ, ◌+◌, List, [], ◌∷◌, ◌++◌, length, Option, None, Some, refl, sym, ap, ◌∙◌, subst, append_assoc, length-append, arith, IfSome, Appends, Consumes, prepend_known, concat, Appends-trans, append-nil, RoadMap, IsMessageOfLine, Message, lines_of, IsNext, IsOver, AreWrittenFor, IsWrittenFor, IsLeft, IsWrittenTo, IsOutputOfNext, Records}
use Rattle.std.proofs.lemmas.List.Folds.{concat-append}

length_more : (done : List (List ℕ)) (line : List ℕ) → length (done ++ line ∷ []) ≡ length done + 1
length_more done line = length-append done (line ∷ [])

concat_more : (outputs : List (List ℕ)) (output : List ℕ)
    → concat (outputs ++ output ∷ []) ≡ concat outputs ++ output
concat_more outputs output = concat-append outputs (output ∷ [])
    ∙ ap (λ (bytes : List ℕ). concat outputs ++ bytes) (append-nil output)

-- one line more of an input
pub one_line_more : (done : List (List ℕ)) (line : List ℕ) (input left rest : Option (List ℕ))
    → IsLeft done input left
    → IsNext line left rest → IsLeft (done ++ line ∷ []) input rest
one_line_more done line None left rest is next = tt
one_line_more done line (Some text) None rest is next = absurd is
one_line_more done line (Some text) (Some more) None is next = absurd next
one_line_more done line (Some text) (Some more) (Some after) is next =
    is ∙ ap (λ (lines : List (List ℕ)). done ++ lines) next
    ∙ sym (append_assoc done (line ∷ []) (lines_of after))

module _ (records : Records) (road : RoadMap) where
  -- what is written for one record more
  pub one_output_more : (number at : ℕ) (done outputs : List (List ℕ)) (line output : List ℕ)
      (said : Message)
      → AreWrittenFor records road number done outputs → at ≡ number + length done
      → IsMessageOfLine line said
      → IsWrittenFor records road at said output
      → AreWrittenFor records road number (done ++ line ∷ []) (outputs ++ output ∷ [])
  one_output_more number at [] [] line output said are counted says is =
      let here : at ≡ number = omega arith in
      ((said, says, subst (λ (n : ℕ). IsWrittenFor records road n said output) here is), refl)
  one_output_more number at [] (first ∷ outputs) line output said are counted says is = absurd cc
  one_output_more number at (first ∷ done) [] line output said are counted says is = absurd are
  one_output_more number at (first ∷ done) (other ∷ outputs) line output said are counted says is = (
    are.0,
    one_output_more (number + 1) at done outputs line output said are.1 (omega arith) says
        is,
  )

-- ---- from the first record on

-- the lines that are left, where they are known
abbrev pub lines_left : Option (List ℕ) → List (List ℕ)
lines_left None = []
lines_left (Some bytes) = lines_of bytes

pub split_of : (done : List (List ℕ)) (input left : Option (List ℕ)) → IsLeft done input left
    → IfSome input (λ text. lines_of text ≡ done ++ lines_left left)
split_of done None left is = tt
split_of done (Some text) None is = absurd is
split_of done (Some text) (Some more) is = is

pub next_of : (done : List (List ℕ)) (line : List ℕ) (input left rest : Option (List ℕ))
    → IsLeft done input left
    → IsNext line left rest → IfSome input (λ _. lines_left left ≡ line ∷ lines_left rest)
next_of done line None left rest is next = tt
next_of done line (Some text) None rest is next = absurd is
next_of done line (Some text) (Some more) None is next = absurd next
next_of done line (Some text) (Some more) (Some after) is next = next

-- where no line is left, all are done
pub all_done : (done : List (List ℕ)) (input left rest : Option (List ℕ)) → IsLeft done input left
    → IsOver left rest
    → IfSome input (λ text. lines_of text ≡ done)
unfolding lines_of
all_done done None left rest is over = tt
all_done done (Some text) None rest is over = absurd is
all_done done (Some text) (Some more) None is over = absurd over.none_left
all_done done (Some text) (Some more) (Some after) is over =
    let none : more ≡ [] = over.none_left ∙ over.at_end in
    is ∙ ap (λ (bytes : List ℕ). done ++ lines_of bytes) none ∙ append-nil done

-- what the source has left where the input was cut off, and no byte is at hand
pub cut_of : (done : List (List ℕ)) (lost at_hand : List ℕ) (input left rest : Option (List ℕ))
    → IsLeft done input left
    → at_hand ≡ [] → Consumes left (prepend_known at_hand rest) lost
    → IfSome input (λ _. IfSome rest (λ bytes. lines_left left ≡ lines_of (lost ++ bytes)))
cut_of done lost at_hand None left rest is none consumed = tt
cut_of done lost at_hand (Some text) None rest is none consumed = absurd is
cut_of done lost at_hand (Some text) (Some more) None is none consumed = tt
cut_of done lost at_hand (Some text) (Some more) (Some after) is none consumed =
    ap lines_of (consumed ∙ ap (λ (bytes : List ℕ). lost ++ (bytes ++ after)) none)

-- what is left while bytes are at hand
pub hand_of : (done : List (List ℕ)) (at_hand : List ℕ) (input rest : Option (List ℕ))
    → IsLeft done input (prepend_known at_hand rest)
    → IfSome input (λ _. IfSome rest
    (λ bytes. lines_left (prepend_known at_hand rest) ≡ lines_of (at_hand ++ bytes)))
hand_of done at_hand None rest is = tt
hand_of done at_hand (Some text) None is = tt
hand_of done at_hand (Some text) (Some after) is = refl

module _ {records : Records} {road : RoadMap} where
  pub one_more : {number next : ℕ} {input left rest old between new : Option (List ℕ)}
      {output : List ℕ} → IsWrittenTo records road number input left old between
      → IsOutputOfNext records road number left rest output → Appends between new output
      → next ≡ number + 1 → IsWrittenTo records road next input rest old new
  one_more {number} {next} {input} {left} {rest} {old} {between} {new} {output} so_far is took
      counted = record {
        done = so_far.done ++ is.line ∷ [];
        outputs = so_far.outputs ++ output ∷ [];
        counted = counted ∙ ap (λ n. n + 1) (so_far.counted
            ∙ sym (length_more so_far.done is.line));
        are = one_output_more records road 1 number so_far.done so_far.outputs is.line output is.said
            so_far.are (so_far.counted ∙ omega arith) is.says is.written;
        left_is = one_line_more so_far.done is.line input left rest so_far.left_is is.is_next;
        took = rw (concat_more so_far.outputs output)
            (Appends-trans old between new (concat so_far.outputs) output so_far.took took);
      }

-- what is written for the next record, by the same records and map at other places in memory
pub of_same : {one other : Bor Records} {at there : Bor RoadMap} {number : ℕ}
    {left rest : Option (List ℕ)} {output : List ℕ} → one ≡ other → at ≡ there
    → IsOutputOfNext one.now at.now number left rest output
    → IsOutputOfNext other.now there.now number left rest output
of_same {one} {other} {at} {there} {number} {left} {rest} {output} same map is =
    subst (λ (r : Bor Records). IsOutputOfNext r.now there.now number left rest output) same
    (subst (λ (m : Bor RoadMap). IsOutputOfNext one.now m.now number left rest output) map is)
