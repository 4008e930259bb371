-- What the structs of the C boundary say, as the operations' definitions number it.
use Rattle.refusal.specs.Refusal.{Answer as NumberedAnswer}
use Rattle.message.specs.Layout.{layout}
use Rattle.message.specs.Read.{LayoutAnswer as NumberedLayout}
use Rattle.consistent.specs.List.{ListAnswer as NumberedList}
use Rattle.dairyhour.specs.declared.Answer.{Answer}
use Rattle.dairyhour.specs.declared.LayoutAnswer.{LayoutAnswer}

-- the refusal and the value in a dh_answer
abbrev pub answer_in : Answer → NumberedAnswer
answer_in a = record { refusal = a.refusal; value = a.value }

-- the refusal and the count in the dh_answer of dh_list
abbrev pub list_in : Answer → NumberedList
list_in a = record { refusal = a.refusal; count = a.value }

-- the refusal and the layout in a dh_layout
abbrev pub layout_in : LayoutAnswer → NumberedLayout
layout_in a = record { refusal = a.refusal; layout = layout a.l1 a.l2 a.nc a.r }
