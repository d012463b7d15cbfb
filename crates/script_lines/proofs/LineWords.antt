-- The words that lines begin with.
use Rattle.std.proofs.Common.{◌≡◌, ◌++◌, codes, arith, Bool, true, false, Some, refl}
use Rattle.model.specs.declared.queries.Query.{Query}
use Rattle.model.specs.declared.queries.Query.TheVariants as query
use Rattle.schema.specs.NodeData.{NodeData}
use Rattle.schema.specs.declared.NodeId.{NodeId}
use Rattle.script_lines.specs.LineReading.{IsLineWord, host_word}
use Rattle.script_lines.specs.Lines.{host_text}
use Rattle.script_nodes.specs.NodeReading.{node_args}
use Rattle.script_nodes.specs.NodeText.{node_text, node_head}
use Rattle.script_lines.specs.Questions.{question_word}
use Rattle.script_words.specs.Reading.{after}
use Rattle.script_words.proofs.Lacking.{lacks_by}

pub node_is_line_word : IsLineWord (codes "node")
node_is_line_word = ((lacks_by 32 (codes "node") refl, omega arith), λ e. omega (arith, e))

pub update_is_line_word : IsLineWord (codes "update")
update_is_line_word = ((lacks_by 32 (codes "update") refl, omega arith), λ e. omega (arith, e))

pub end_is_line_word : IsLineWord (codes "end")
end_is_line_word = ((lacks_by 32 (codes "end") refl, omega arith), λ e. omega (arith, e))

pub host_is_line_word : IsLineWord (codes "host")
host_is_line_word = ((lacks_by 32 (codes "host") refl, omega arith), λ e. omega (arith, e))

pub print_is_line_word : IsLineWord (codes "print")
print_is_line_word = ((lacks_by 32 (codes "print") refl, omega arith), λ e. omega (arith, e))

pub question_is_line_word : (q : Query) → IsLineWord (question_word q)
question_is_line_word (query.Children name) = ((lacks_by 32 (codes "children") refl, omega arith), λ e. omega (arith, e))
question_is_line_word (query.FollowingSiblings name) = ((lacks_by 32 (codes "following") refl, omega arith), λ e. omega (arith, e))
question_is_line_word (query.PrecedingSiblings name) = ((lacks_by 32 (codes "preceding") refl, omega arith), λ e. omega (arith, e))
question_is_line_word (query.FilteredChildren name filter) = ((lacks_by 32 (codes "filtered") refl, omega arith), λ e. omega (arith, e))
question_is_line_word (query.FollowingFiltered name filter) = ((lacks_by 32 (codes "following_filtered") refl, omega arith), λ e. omega (arith, e))
question_is_line_word (query.PrecedingFiltered name filter) = ((lacks_by 32 (codes "preceding_filtered") refl, omega arith), λ e. omega (arith, e))
question_is_line_word (query.Label name) = ((lacks_by 32 (codes "label") refl, omega arith), λ e. omega (arith, e))
question_is_line_word (query.Value name) = ((lacks_by 32 (codes "value") refl, omega arith), λ e. omega (arith, e))
question_is_line_word (query.Set name filter) = ((lacks_by 32 (codes "set") refl, omega arith), λ e. omega (arith, e))
question_is_line_word (query.Text name) = ((lacks_by 32 (codes "text") refl, omega arith), λ e. omega (arith, e))
question_is_line_word (query.Hit name point filter) = ((lacks_by 32 (codes "hit") refl, omega arith), λ e. omega (arith, e))
question_is_line_word query.Focus = ((lacks_by 32 (codes "focus") refl, omega arith), λ e. omega (arith, e))
question_is_line_word (query.Move name at movement) = ((lacks_by 32 (codes "move") refl, omega arith), λ e. omega (arith, e))
question_is_line_word (query.Indexes name at) = ((lacks_by 32 (codes "indexes") refl, omega arith), λ e. omega (arith, e))
question_is_line_word (query.RangeText name start finish) = ((lacks_by 32 (codes "between") refl, omega arith), λ e. omega (arith, e))

-- ---- a line is its first word and what stands after it

pub host_line_parts : (is_focused : Bool) → host_text is_focused ≡ codes "host" ++ after (Some (host_word is_focused))
host_line_parts true = refl
host_line_parts false = refl

pub node_line_parts : (id : NodeId) (n : NodeData) → node_text id n ≡ codes "node" ++ after (Some (node_args id n))
unfolding node_text node_head
node_line_parts id n = refl
