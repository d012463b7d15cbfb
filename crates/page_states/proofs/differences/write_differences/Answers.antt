use Rattle.page_states.proofs.differences.write_differences.Goals as goal

pub returns : goal.returns
returns g c = record {
  of_role = g.O.Write.contents c.write_role_difference.new.out;
  role = c.in_ok-write_role_difference.ensures;
  of_place = g.O.Write.contents c.write_place_difference.new.out;
  place = c.in_ok-write_place_difference.ensures;
  of_fields = g.O.Write.contents c.write_field_differences.new.out;
  fields = c.in_ok-write_field_differences.ensures;
  box = c.in_ok-write_box_difference.ensures;
}
