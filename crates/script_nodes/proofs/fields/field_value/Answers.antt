use Rattle.std.proofs.Common.{ap}
use Rattle.script_nodes.specs.FieldMeaning.{by_kind}
use Rattle.script_nodes.proofs.FieldWords.{of_field, value_at_of}
use Rattle.script_nodes.proofs.fields.field_value.Goals as goal

pub returns-in-Ids-clause-means : goal.returns-in-Ids-clause-means
returns-in-Ids-clause-means c = of_field c.args.words.now c.args.node.now c.ids_value.result c.ids_value.new.node c.ids_value.new.words c.args.field _ c.in-Ids.is c.ids_value.ensures.means

pub returns-in-Id-clause-means : goal.returns-in-Id-clause-means
returns-in-Id-clause-means c = of_field c.args.words.now c.args.node.now c.id_value.result c.id_value.new.node c.id_value.new.words c.args.field _ c.in-Id.is c.id_value.ensures.means

pub returns-in-Text-clause-means : goal.returns-in-Text-clause-means
returns-in-Text-clause-means c = of_field c.args.words.now c.args.node.now c.text_value.result c.text_value.new.node c.text_value.new.words c.args.field _ c.in-Text.is c.text_value.ensures.means

pub returns-in-Numbers-clause-means : goal.returns-in-Numbers-clause-means
returns-in-Numbers-clause-means c = of_field c.args.words.now c.args.node.now c.numbers_value.result c.numbers_value.new.node c.numbers_value.new.words c.args.field _ c.in-Numbers.is c.numbers_value.ensures.means

pub returns-in-Units-clause-means : goal.returns-in-Units-clause-means
returns-in-Units-clause-means c = of_field c.args.words.now c.args.node.now c.units_value.result c.units_value.new.node c.units_value.new.words c.args.field _ c.in-Units.is c.units_value.ensures.means

pub returns-in-Bool-clause-means : goal.returns-in-Bool-clause-means
returns-in-Bool-clause-means c = of_field c.args.words.now c.args.node.now c.bool_value.result c.bool_value.new.node c.bool_value.new.words c.args.field _ c.in-Bool.is c.bool_value.ensures.means

pub returns-in-Color-clause-means : goal.returns-in-Color-clause-means
returns-in-Color-clause-means c = of_field c.args.words.now c.args.node.now c.color_value.result c.color_value.new.node c.color_value.new.words c.args.field _ c.in-Color.is c.color_value.ensures.means

pub returns-in-Decoration-clause-means : goal.returns-in-Decoration-clause-means
returns-in-Decoration-clause-means c = of_field c.args.words.now c.args.node.now c.decoration_value.result c.decoration_value.new.node c.decoration_value.new.words c.args.field _ c.in-Decoration.is c.decoration_value.ensures.means

pub returns-in-Number-clause-means : goal.returns-in-Number-clause-means
returns-in-Number-clause-means c = of_field c.args.words.now c.args.node.now c.number_value.result c.number_value.new.node c.number_value.new.words c.args.field _ c.in-Number.is c.number_value.ensures.means

pub returns-in-Count-clause-means : goal.returns-in-Count-clause-means
returns-in-Count-clause-means c = of_field c.args.words.now c.args.node.now c.count_value.result c.count_value.new.node c.count_value.new.words c.args.field _ c.in-Count.is c.count_value.ensures.means

pub returns-in-Actions-clause-means : goal.returns-in-Actions-clause-means
returns-in-Actions-clause-means c = of_field c.args.words.now c.args.node.now c.actions_value.result c.actions_value.new.node c.actions_value.new.words c.args.field _ c.in-Actions.is c.actions_value.ensures.means

pub returns-in-Tree-clause-means : goal.returns-in-Tree-clause-means
returns-in-Tree-clause-means c = of_field c.args.words.now c.args.node.now c.tree_value.result c.tree_value.new.node c.tree_value.new.words c.args.field _ c.in-Tree.is c.tree_value.ensures.means

pub returns-in-Bounds-clause-means : goal.returns-in-Bounds-clause-means
returns-in-Bounds-clause-means c = of_field c.args.words.now c.args.node.now c.bounds_value.result c.bounds_value.new.node c.bounds_value.new.words c.args.field _ c.in-Bounds.is c.bounds_value.ensures.means

pub returns-in-Transform-clause-means : goal.returns-in-Transform-clause-means
returns-in-Transform-clause-means c = of_field c.args.words.now c.args.node.now c.transform_value.result c.transform_value.new.node c.transform_value.new.words c.args.field _ c.in-Transform.is c.transform_value.ensures.means

pub returns-in-Selection-clause-means : goal.returns-in-Selection-clause-means
returns-in-Selection-clause-means c = of_field c.args.words.now c.args.node.now c.selection_value.result c.selection_value.new.node c.selection_value.new.words c.args.field _ c.in-Selection.is c.selection_value.ensures.means

pub returns-in-Toggled-clause-means : goal.returns-in-Toggled-clause-means
returns-in-Toggled-clause-means c = of_field c.args.words.now c.args.node.now c.toggled_value.result c.toggled_value.new.node c.toggled_value.new.words c.args.field _ c.in-Toggled.is c.toggled_value.ensures.means

pub returns-in-Live-clause-means : goal.returns-in-Live-clause-means
returns-in-Live-clause-means c = of_field c.args.words.now c.args.node.now c.live_value.result c.live_value.new.node c.live_value.new.words c.args.field _ c.in-Live.is c.live_value.ensures.means

pub returns-in-Orientation-clause-means : goal.returns-in-Orientation-clause-means
returns-in-Orientation-clause-means c = of_field c.args.words.now c.args.node.now c.orientation_value.result c.orientation_value.new.node c.orientation_value.new.words c.args.field _ c.in-Orientation.is c.orientation_value.ensures.means

pub returns-in-SortDirection-clause-means : goal.returns-in-SortDirection-clause-means
returns-in-SortDirection-clause-means c = of_field c.args.words.now c.args.node.now c.sort_direction_value.result c.sort_direction_value.new.node c.sort_direction_value.new.words c.args.field _ c.in-SortDirection.is c.sort_direction_value.ensures.means

pub returns-in-AriaCurrent-clause-means : goal.returns-in-AriaCurrent-clause-means
returns-in-AriaCurrent-clause-means c = of_field c.args.words.now c.args.node.now c.aria_current_value.result c.aria_current_value.new.node c.aria_current_value.new.words c.args.field _ c.in-AriaCurrent.is c.aria_current_value.ensures.means

pub returns-in-HasPopup-clause-means : goal.returns-in-HasPopup-clause-means
returns-in-HasPopup-clause-means c = of_field c.args.words.now c.args.node.now c.has_popup_value.result c.has_popup_value.new.node c.has_popup_value.new.words c.args.field _ c.in-HasPopup.is c.has_popup_value.ensures.means

pub returns-in-FontSize-clause-means : goal.returns-in-FontSize-clause-means
returns-in-FontSize-clause-means c = of_field c.args.words.now c.args.node.now c.font_size_value.result c.font_size_value.new.node c.font_size_value.new.words c.args.field _ c.in-FontSize.is c.font_size_value.ensures.means

pub returns-in-FontWeight-clause-means : goal.returns-in-FontWeight-clause-means
returns-in-FontWeight-clause-means c = of_field c.args.words.now c.args.node.now c.font_weight_value.result c.font_weight_value.new.node c.font_weight_value.new.words c.args.field _ c.in-FontWeight.is c.font_weight_value.ensures.means

pub returns-in-TextDirection-clause-means : goal.returns-in-TextDirection-clause-means
returns-in-TextDirection-clause-means c = of_field c.args.words.now c.args.node.now c.text_direction_value.result c.text_direction_value.new.node c.text_direction_value.new.words c.args.field _ c.in-TextDirection.is c.text_direction_value.ensures.means

pub returns-in-TextAlign-clause-means : goal.returns-in-TextAlign-clause-means
returns-in-TextAlign-clause-means c = of_field c.args.words.now c.args.node.now c.text_align_value.result c.text_align_value.new.node c.text_align_value.new.words c.args.field _ c.in-TextAlign.is c.text_align_value.ensures.means

pub returns-in-VerticalOffset-clause-means : goal.returns-in-VerticalOffset-clause-means
returns-in-VerticalOffset-clause-means c = of_field c.args.words.now c.args.node.now c.vertical_offset_value.result c.vertical_offset_value.new.node c.vertical_offset_value.new.words c.args.field _ c.in-VerticalOffset.is c.vertical_offset_value.ensures.means

pub returns-in-Flag-clause-means : goal.returns-in-Flag-clause-means
unfolding by_kind
returns-in-Flag-clause-means c = ap (value_at_of c.args.words.now c.args.node.now) c.in-Flag.is
