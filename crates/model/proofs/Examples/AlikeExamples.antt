-- Two sessions that differ in a password alone, worked out.
use Rattle.std.proofs.Common.{◌≡◌, ◌≢◌, ℕ, true, List, [], ◌∷◌, length, map, Option, Some, None, inl, inr, refl, sym, ap, ◌∙◌, arith}
use Rattle.std.specs.Prelude.{codes, if◌then◌else◌}
use Rattle.std.specs.Option.{option_map_or}
use Rattle.std.specs.Ordering.{nat_cmp}
use Rattle.std.specs.Str.{chars, is_utf8}
use Rattle.std.specs.Char.{encode_utf8}
use Rattle.std.specs.FinMap.{entries-from_sorted}
use Rattle.std.specs.List.Sorted.{IsStrictlySortedBy}
use Rattle.schema.specs.NodeData.{NodeData}
use Rattle.model.specs.declared.queries.Query.{Query}
use Rattle.model.specs.declared.queries.Query.TheVariants as query
use Rattle.model.specs.declared.queries.Move.TheVariants as move
use Rattle.model.specs.declared.FullNodeId.{FullNodeId}
use Rattle.model.specs.FullIds.{full_cmp}
use Rattle.model.specs.World.{World, data_of}
use Rattle.model.specs.Update.{IsAccepted}
use Rattle.model.specs.Differences.{Updated, IsAscendingListOf, IsAdded, IsUpdated}
use Rattle.model.specs.Answers.{Answer}
use Rattle.model.specs.Answers as answer
use Rattle.model.specs.Queries.{node_named, of_position, answer_of}
use Rattle.model.specs.Moves.{to_global_usv_index, to_global_utf16_index, to_line_index, forward_to_paragraph_start, line_range}
use Rattle.model.specs.TextRuns.{supports_text_ranges}
use Rattle.model.specs.FlatText.{FlatText, needs_masking, shown_run, flat_text}
use Rattle.model.specs.FlatText as flat
use Rattle.model.specs.Values.{bullets}
use Rattle.model.specs.Run.{CommandData, ToUpdate, ToQuery, ReplyData, Accepted, Answered, OutOfMemory, Does, Runs}
use Rattle.model.specs.Shape.{IsMaskedText, EqualShape}
use Rattle.model.specs.AlikeRuns.{AreAlikeUpdates, AreAlikeRuns, told_openly}
use Rattle.model.specs.Examples.{at, node, plain_tree}
use Rattle.model.specs.ViewExamples.{root_tree}
use Rattle.model.specs.SecretExamples.{field_node, run_node, secret_nodes, secret, one_secret, other_secret}
use Rattle.model.specs.QueryExamples.{in_root, start_at}
use Rattle.model.specs.AlikeExamples.{send_run, session_of, its_replies, one_longer, other_longer, run_told, SessionsAreAlike, one_two_lines, other_two_lines, HasTwoLines, LinesAreAlike}
use Rattle.model.proofs.Text.Secrets.{one_text}
use Rattle.model.proofs.Differences.SameWorlds.{with_same_focus}
use Rattle.model.proofs.Asking.Asked.{of_secret}
use Rattle.model.proofs.Alike.Answers.{one_answer}
use Rattle.model.proofs.Alike.Runs.{alike_step}
use Rattle.model.proofs.Examples.Tools.{◌▸◌}
use Rattle.model.proofs.Examples.Tested.{IsWritten, node_in, is_there, among, place_read, root_tree_again, accepted_by_tests}
use Rattle.model.proofs.Examples.ToldTools.{listed_so, same_still, nothing_there}
use Rattle.model.proofs.Examples.SecretExamples.{sent_as, root_data, password, sent, runs, same_shape, equal_shape}

abbrev two : List ℕ
two = 1 ∷ 1 ∷ []

abbrev three : List ℕ
three = 1 ∷ 1 ∷ 1 ∷ []

-- ---- the second run of two characters is sent with three

module _ (v a l b value : List ℕ) where
  abbrev old : World
  old = secret v (run_node a l) (run_node b two)

  abbrev new : World
  new = secret v (run_node a l) (run_node value three)

  before : IsWritten old (root_tree 0) (secret_nodes v (run_node a l) (run_node b two))
  before = record { trees = entries-from_sorted nat_cmp (root_tree 0) tt; nodes = entries-from_sorted full_cmp (secret_nodes v (run_node a l) (run_node b two)) tt }

  after : IsWritten new (root_tree 0) (secret_nodes v (run_node a l) (run_node value three))
  after = record { trees = entries-from_sorted nat_cmp (root_tree 0) tt; nodes = entries-from_sorted full_cmp (secret_nodes v (run_node a l) (run_node value three)) tt }

  accepted : IsAccepted old (send_run value) new
  accepted =
      accepted_by_tests (send_run value) before (node 0) refl after (refl, refl, refl)
      (root_tree_again (send_run value) before refl refl refl)
      (refl ▸ tt, refl ▸ refl ▸ refl ▸ tt) refl plain_tree refl refl refl

  none_added : IsAscendingListOf (IsAdded old new) []
  unfolding IsStrictlySortedBy
  none_added =
      listed_so _ [] (at 0 0 ∷ at 0 1 ∷ at 0 2 ∷ []) tt tt (λ y h. among after y h.0)
      (inr (λ h. h.1 (is_there before (at 0 0) refl)), (inr (λ h. h.1 (is_there before (at 0 1) refl)), (inr (λ h. h.1 (is_there before (at 0 2) refl)), tt)))

  none_removed : IsAscendingListOf (IsAdded new old) []
  unfolding IsStrictlySortedBy
  none_removed =
      listed_so _ [] (at 0 0 ∷ at 0 1 ∷ at 0 2 ∷ []) tt tt (λ y h. among before y h.0)
      (inr (λ h. h.1 (is_there after (at 0 0) refl)), (inr (λ h. h.1 (is_there after (at 0 1) refl)), (inr (λ h. h.1 (is_there after (at 0 2) refl)), tt)))

  abbrev lengths_in : Option NodeData → ℕ
  lengths_in o = option_map_or (λ d. length d.character_lengths) o 0

  differs : data_of old (at 0 2) ≢ data_of new (at 0 2)
  differs e =
      let same : 2 ≡ 3 = sym (ap lengths_in (node_in before (at 0 2))) ∙ ap lengths_in e ∙ ap lengths_in (node_in after (at 0 2)) in
      absurd (omega (arith, same))

  root_stays : ¬ (IsUpdated old new None (at 0 0))
  root_stays = same_still old new None (at 0 0) (node_in before (at 0 0) ∙ sym (node_in after (at 0 0))) (place_read before (at 0 0) ∙ sym (place_read after (at 0 0))) (nothing_there (at 0 0))

  first_stays : ¬ (IsUpdated old new None (at 0 1))
  first_stays = same_still old new None (at 0 1) (node_in before (at 0 1) ∙ sym (node_in after (at 0 1))) (place_read before (at 0 1) ∙ sym (place_read after (at 0 1))) (nothing_there (at 0 1))

  one_updated : IsAscendingListOf (IsUpdated old new None) (at 0 2 ∷ [])
  unfolding IsStrictlySortedBy
  one_updated =
      listed_so _ (at 0 2 ∷ []) (at 0 0 ∷ at 0 1 ∷ at 0 2 ∷ []) (tt, tt) (((is_there before (at 0 2) refl, is_there after (at 0 2) refl), inl differs), tt)
      (λ y h. among before y h.0.0) (inr root_stays, (inr first_stays, (inl (0, omega arith, refl), tt)))

  pub sends : Does old (ToUpdate (send_run value)) new (run_told old new) Accepted
  sends = (accepted, Updated (at 0 2) ∷ [], with_same_focus old new None None refl refl none_added one_updated none_removed, refl)

-- ---- the two worlds after it

abbrev first_letters : List ℕ
first_letters = 112 ∷ 195 ∷ 164 ∷ []

one_longer_masked : IsMaskedText one_longer (at 0 0)
unfolding supports_text_ranges needs_masking chars is_utf8 encode_utf8
one_longer_masked =
    let s = sent one_longer (codes "secret") first_letters (1 ∷ 2 ∷ []) (codes "sst") three refl in
    let r = root_data one_longer (codes "secret") first_letters (1 ∷ 2 ∷ []) (codes "sst") three refl in
    record { supported = rw (s, r) refl; masked = rw (s, r) refl }

other_longer_masked : IsMaskedText other_longer (at 0 0)
unfolding supports_text_ranges needs_masking chars is_utf8 encode_utf8
other_longer_masked =
    let s = sent other_longer (codes "x") (codes "xy") two (codes "zwx") three refl in
    let r = root_data other_longer (codes "x") (codes "xy") two (codes "zwx") three refl in
    record { supported = rw (s, r) refl; masked = rw (s, r) refl }

longer_shape : EqualShape (at 0 0) one_longer other_longer
longer_shape = same_shape (codes "secret") first_letters (1 ∷ 2 ∷ []) (codes "sst") three (codes "x") (codes "xy") two (codes "zwx") three one_longer_masked other_longer_masked refl

-- ---- what is answered of the first

longer_text : flat_text one_longer (at 0 0) ≡ map (shown_run one_longer (at 0 0) true true) (sent_as 1 first_letters (1 ∷ 2 ∷ []) ∷ sent_as 2 (codes "sst") three ∷ [])
unfolding flat_text
longer_text =
    λ i. map (shown_run one_longer (at 0 0) (password one_longer (codes "secret") first_letters (1 ∷ 2 ∷ []) (codes "sst") three refl i) (one_longer_masked.masked i)) (sent one_longer (codes "secret") first_letters (1 ∷ 2 ∷ []) (codes "sst") three refl i)

longer_root : data_of one_longer (at 0 0) ≡ Some (field_node (codes "secret"))
longer_root = root_data one_longer (codes "secret") first_letters (1 ∷ 2 ∷ []) (codes "sst") three refl

longer_named : node_named one_longer (in_root 0) ≡ Some (at 0 0)
longer_named = rw longer_root refl

abbrev numbers : FlatText → Answer
numbers t = of_position t (start_at 5) (λ p. answer.Indexes (to_global_usv_index t p) (to_global_utf16_index t p) (to_line_index t p))

last_indexes : answer_of one_longer (query.Indexes (in_root 0) (start_at 5)) ≡ answer.Indexes 5 5 1
unfolding chars
last_indexes =
    ap (λ o. option_map_or (λ id. if supports_text_ranges one_longer id then numbers (flat_text one_longer id) else answer.NotText) o answer.NoNode) longer_named
    ∙ ap (λ b. if b then numbers (flat_text one_longer (at 0 0)) else answer.NotText) one_longer_masked.supported
    ∙ ap numbers longer_text

-- ---- both sessions

only_secret : (id : FullNodeId) → node_named one_secret (in_root 0) ≡ Some id → id ≡ at 0 0
only_secret id e =
    let here : node_named one_secret (in_root 0) ≡ Some (at 0 0) = rw (root_data one_secret (codes "secret") first_letters (1 ∷ 2 ∷ []) (codes "ss") two refl) refl in
    let same : Some id ≡ Some (at 0 0) = sym e ∙ here in
    cc

only_longer : (id : FullNodeId) → node_named one_longer (in_root 0) ≡ Some id → id ≡ at 0 0
only_longer id e =
    let same : Some id ≡ Some (at 0 0) = sym e ∙ longer_named in
    cc

-- a question is answered
asks : (w : World) (q : Query) (a : Answer) → answer_of w q ≡ a → Does w (ToQuery q) w [] (Answered a)
asks w q a e = (refl, refl, ap Answered (sym e))

-- a session: two questions, the update, and a question
runs_so : (old new : World) (value : List ℕ) →
    answer_of old (query.Value (in_root 0)) ≡ answer.Text (Some (bullets 4)) →
    answer_of old (query.Move (in_root 0) (start_at 0) move.ForwardToWordStart) ≡ answer.Position (Some (record { node = node 2; character_index = 2 })) →
    Does old (ToUpdate (send_run value)) new (run_told old new) Accepted →
    answer_of new (query.Indexes (in_root 0) (start_at 5)) ≡ answer.Indexes 5 5 1 →
    Runs old (session_of value) new (run_told old new) its_replies
runs_so old new value shown led sent counted = (
  old,
  [],
  _,
  _,
  _,
  asks old (query.Value (in_root 0)) _ shown,
  (
    old,
    [],
    _,
    _,
    _,
    asks old (query.Move (in_root 0) (start_at 0) move.ForwardToWordStart) _ led,
    (
      new,
      run_told old new,
      [],
      _,
      _,
      sent,
      (new, [], [], _, [], asks new (query.Indexes (in_root 0) (start_at 5)) _ counted, (refl, refl, refl), refl, refl),
      refl,
      refl,
    ),
    refl,
    refl,
  ),
  refl,
  refl,
)

one_shown : answer_of one_secret (query.Value (in_root 0)) ≡ answer.Text (Some (bullets 4))
one_shown = of_secret.value

one_led : answer_of one_secret (query.Move (in_root 0) (start_at 0) move.ForwardToWordStart) ≡ answer.Position (Some (record { node = node 2; character_index = 2 }))
one_led = of_secret.moved

other_shown : answer_of other_secret (query.Value (in_root 0)) ≡ answer.Text (Some (bullets 4))
other_shown = sym (one_answer (at 0 0) one_secret other_secret equal_shape (query.Value (in_root 0)) only_secret) ∙ one_shown

other_led : answer_of other_secret (query.Move (in_root 0) (start_at 0) move.ForwardToWordStart) ≡ answer.Position (Some (record { node = node 2; character_index = 2 }))
other_led = sym (one_answer (at 0 0) one_secret other_secret equal_shape (query.Move (in_root 0) (start_at 0) move.ForwardToWordStart) only_secret) ∙ one_led

other_indexes : answer_of other_longer (query.Indexes (in_root 0) (start_at 5)) ≡ answer.Indexes 5 5 1
other_indexes = sym (one_answer (at 0 0) one_longer other_longer longer_shape (query.Indexes (in_root 0) (start_at 5)) only_longer) ∙ last_indexes

one_sends : Does one_secret (ToUpdate (send_run (codes "sst"))) one_longer (run_told one_secret one_longer) Accepted
one_sends = sends (codes "secret") first_letters (1 ∷ 2 ∷ []) (codes "ss") (codes "sst")

other_sends : Does other_secret (ToUpdate (send_run (codes "zwx"))) other_longer (run_told other_secret other_longer) Accepted
other_sends = sends (codes "x") (codes "xy") two (codes "zw") (codes "zwx")

same_want : (r : ReplyData) → (r ≡ OutOfMemory → r ≡ OutOfMemory) × (r ≡ OutOfMemory → r ≡ OutOfMemory)
same_want r = (λ e. e, λ e. e)

abbrev root : FullNodeId
root = at 0 0

-- a question of two worlds that are alike
alike_question : (w v : World) (q : Query) (a : Answer) (cs ds : List CommandData) (rs ss : List ReplyData) → EqualShape root w v → answer_of w q ≡ a → answer_of v q ≡ a → AreAlikeRuns root w cs rs v ds ss →
    AreAlikeRuns root w (ToQuery q ∷ cs) (Answered a ∷ rs) v (ToQuery q ∷ ds) (Answered a ∷ ss)
alike_question w v q a cs ds rs ss e h g rest =
    alike_step root w w v v (ToQuery q) (ToQuery q) cs ds [] [] (Answered a) (Answered a) rs ss (inr e) refl (same_want (Answered a)) (asks w q a h) (asks v q a g) rest

alike_updates : AreAlikeUpdates root one_secret (send_run (codes "sst")) (send_run (codes "zwx"))
alike_updates = record { name = refl; info = refl; focus = refl; nodes = refl }

-- what is left of a session, and of its replies
abbrev last : List CommandData
last = ToQuery (query.Indexes (in_root 0) (start_at 5)) ∷ []

abbrev last_reply : List ReplyData
last_reply = Answered (answer.Indexes 5 5 1) ∷ []

abbrev sent_on : List ℕ → List CommandData
sent_on value = ToUpdate (send_run value) ∷ last

abbrev moved_on : List ℕ → List CommandData
moved_on value = ToQuery (query.Move (in_root 0) (start_at 0) move.ForwardToWordStart) ∷ sent_on value

abbrev led : ReplyData
led = Answered (answer.Position (Some (record { node = node 2; character_index = 2 })))

alike_ends : AreAlikeRuns root one_longer last last_reply other_longer last last_reply
alike_ends = alike_question one_longer other_longer (query.Indexes (in_root 0) (start_at 5)) (answer.Indexes 5 5 1) [] [] [] [] longer_shape last_indexes other_indexes (inr longer_shape, refl, refl, refl)

alike_sends : AreAlikeRuns root one_secret (sent_on (codes "sst")) (Accepted ∷ last_reply) other_secret (sent_on (codes "zwx")) (Accepted ∷ last_reply)
alike_sends =
    alike_step root one_secret one_longer other_secret other_longer (ToUpdate (send_run (codes "sst"))) (ToUpdate (send_run (codes "zwx"))) last last
    (run_told one_secret one_longer) (run_told other_secret other_longer) Accepted Accepted last_reply last_reply (inr equal_shape) alike_updates (same_want Accepted) one_sends other_sends alike_ends

alike_moves : AreAlikeRuns root one_secret (moved_on (codes "sst")) (led ∷ Accepted ∷ last_reply) other_secret (moved_on (codes "zwx")) (led ∷ Accepted ∷ last_reply)
alike_moves =
    alike_question one_secret other_secret (query.Move (in_root 0) (start_at 0) move.ForwardToWordStart) (answer.Position (Some (record { node = node 2; character_index = 2 })))
    (sent_on (codes "sst")) (sent_on (codes "zwx")) (Accepted ∷ last_reply) (Accepted ∷ last_reply) equal_shape one_led other_led alike_sends

alike_sessions : AreAlikeRuns root one_secret (session_of (codes "sst")) its_replies other_secret (session_of (codes "zwx")) its_replies
alike_sessions =
    alike_question one_secret other_secret (query.Value (in_root 0)) (answer.Text (Some (bullets 4)))
    (moved_on (codes "sst")) (moved_on (codes "zwx")) (led ∷ Accepted ∷ last_reply) (led ∷ Accepted ∷ last_reply) equal_shape one_shown other_shown alike_moves

nothing_open : told_openly (at 0 0) (run_told one_secret one_longer) ≡ []
nothing_open = rw (runs one_secret (codes "secret") first_letters (1 ∷ 2 ∷ []) (codes "ss") two refl) refl

pub sessions_are_alike : SessionsAreAlike
sessions_are_alike = record {
  first = runs_so one_secret one_longer (codes "sst") one_shown one_led one_sends last_indexes;
  second = runs_so other_secret other_longer (codes "zwx") other_shown other_led other_sends other_indexes;
  alike = alike_sessions;
  openly = nothing_open;
}

-- ---- two lines

abbrev one_line : List ℕ
one_line = 97 ∷ 10 ∷ []

abbrev other_line : List ℕ
other_line = 195 ∷ 164 ∷ 10 ∷ []

one_lines_masked : IsMaskedText one_two_lines (at 0 0)
unfolding supports_text_ranges needs_masking chars is_utf8 encode_utf8
one_lines_masked =
    let s = sent one_two_lines (codes "x") one_line two (codes "b") (1 ∷ []) refl in
    let r = root_data one_two_lines (codes "x") one_line two (codes "b") (1 ∷ []) refl in
    record { supported = rw (s, r) refl; masked = rw (s, r) refl }

other_lines_masked : IsMaskedText other_two_lines (at 0 0)
unfolding supports_text_ranges needs_masking chars is_utf8 encode_utf8
other_lines_masked =
    let s = sent other_two_lines (codes "y") other_line (2 ∷ 1 ∷ []) (codes "c") (1 ∷ []) refl in
    let r = root_data other_two_lines (codes "y") other_line (2 ∷ 1 ∷ []) (codes "c") (1 ∷ []) refl in
    record { supported = rw (s, r) refl; masked = rw (s, r) refl }

lines_shape : EqualShape (at 0 0) one_two_lines other_two_lines
lines_shape = same_shape (codes "x") one_line two (codes "b") (1 ∷ []) (codes "y") other_line (2 ∷ 1 ∷ []) (codes "c") (1 ∷ []) one_lines_masked other_lines_masked refl

lines_text : flat_text one_two_lines (at 0 0) ≡ map (shown_run one_two_lines (at 0 0) true true) (sent_as 1 one_line two ∷ sent_as 2 (codes "b") (1 ∷ []) ∷ [])
unfolding flat_text
lines_text =
    λ i. map (shown_run one_two_lines (at 0 0) (password one_two_lines (codes "x") one_line two (codes "b") (1 ∷ []) refl i) (one_lines_masked.masked i)) (sent one_two_lines (codes "x") one_line two (codes "b") (1 ∷ []) refl i)

one_lines : HasTwoLines one_two_lines
one_lines = record { paragraph = ap (λ t. forward_to_paragraph_start t (flat.start_at 0)) lines_text; line = ap (λ t. line_range t 1) lines_text }

-- what the first has the other has
pub lines_are_alike : LinesAreAlike
lines_are_alike =
    let same : flat_text one_two_lines (at 0 0) ≡ flat_text other_two_lines (at 0 0) = one_text (at 0 0) one_two_lines other_two_lines lines_shape in
    record {
      shape = lines_shape;
      one = one_lines;
      other = record {
        paragraph = ap (λ t. forward_to_paragraph_start t (flat.start_at 0)) (sym same) ∙ one_lines.paragraph;
        line = ap (λ t. line_range t 1) (sym same) ∙ one_lines.line;
      };
    }
