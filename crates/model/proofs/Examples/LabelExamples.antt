-- The labels of small interfaces, worked out.
use Rattle.std.specs.Prelude.{None}
use Rattle.schema.specs.declared.Role.TheVariants.{Window, GenericContainer, Paragraph, Button, CheckBox, Link, MenuItem, MenuItemCheckBox, MenuItemRadio, RadioButton}
use Rattle.model.specs.TextRuns.{supports_text_ranges}
use Rattle.model.specs.FlatText.{needs_masking, flat_text}
use Rattle.model.specs.Values.{value_of}
use Rattle.model.specs.Labels.{labelled_by, label_of}
use Rattle.model.specs.LabelExamples as example
use Rattle.model.proofs.Examples.WrittenViews.{data_in, below_in}

pub labels : example.LabelsOf
unfolding label_of labelled_by value_of supports_text_ranges needs_masking flat_text
labels = record {
  by_two = simp (below_in None example.mail tt, data_in None example.mail tt);
  by_one = simp (below_in None example.mail tt, data_in None example.mail tt);
  of_label = simp (below_in None example.mail tt, data_in None example.mail tt);
  with_gaps = simp (below_in None example.gaps tt, data_in None example.gaps tt);
  by_picture = simp (below_in None example.picture tt, data_in None example.picture tt);
  in_container = simp (below_in None (example.labelled_within Link GenericContainer) tt, data_in None (example.labelled_within Link GenericContainer) tt);
  in_paragraph = simp (below_in None (example.labelled_within Link Paragraph) tt, data_in None (example.labelled_within Link Paragraph) tt);
  of_roles = (simp (below_in None (example.labelled Button) tt, data_in None (example.labelled Button) tt), simp (below_in None (example.labelled CheckBox) tt, data_in None (example.labelled CheckBox) tt), simp (below_in None (example.labelled RadioButton) tt, data_in None (example.labelled RadioButton) tt), simp (below_in None (example.labelled MenuItem) tt, data_in None (example.labelled MenuItem) tt), simp (below_in None (example.labelled MenuItemCheckBox) tt, data_in None (example.labelled MenuItemCheckBox) tt), simp (below_in None (example.labelled MenuItemRadio) tt, data_in None (example.labelled MenuItemRadio) tt));
  of_window = simp (below_in None (example.labelled Window) tt, data_in None (example.labelled Window) tt);
}
