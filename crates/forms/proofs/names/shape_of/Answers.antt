use Rattle.forms.specs.Shapes.{shape_of}
use Rattle.forms.proofs.names.shape_of.Goals as goal

pub returns-in-Plain : goal.returns-in-Plain
unfolding shape_of
returns-in-Plain c = simp (c.in-Plain.is)

pub returns-in-Exchange : goal.returns-in-Exchange
unfolding shape_of
returns-in-Exchange c = simp (c.in-Exchange.is)

pub returns-in-Load : goal.returns-in-Load
unfolding shape_of
returns-in-Load c = simp (c.in-Load.is, c.moved.ensures)

pub returns-in-Store : goal.returns-in-Store
unfolding shape_of
returns-in-Store c = simp (c.in-Store.is, c.moved-in-Store.ensures)

pub returns-in-StatusCompare : goal.returns-in-StatusCompare
unfolding shape_of
returns-in-StatusCompare c = simp (c.in-StatusCompare.is, c.compared.ensures)

pub returns-in-FlagCompare : goal.returns-in-FlagCompare
unfolding shape_of
returns-in-FlagCompare c = simp (c.in-FlagCompare.is)

pub returns-in-StoreStatus : goal.returns-in-StoreStatus
unfolding shape_of
returns-in-StoreStatus c = simp (c.in-StoreStatus.is)

pub returns-in-ConditionalMove : goal.returns-in-ConditionalMove
unfolding shape_of
returns-in-ConditionalMove c = simp (c.in-ConditionalMove.is)

pub returns-in-IntegerArith : goal.returns-in-IntegerArith
unfolding shape_of
returns-in-IntegerArith c = simp (c.in-IntegerArith.is)

pub returns-in-PairedCompare : goal.returns-in-PairedCompare
unfolding shape_of
returns-in-PairedCompare c = simp (c.in-PairedCompare.is)

pub returns-in-IntegerCompare : goal.returns-in-IntegerCompare
unfolding shape_of
returns-in-IntegerCompare c = simp (c.in-IntegerCompare.is)

pub returns-in-Arith : goal.returns-in-Arith
unfolding shape_of
returns-in-Arith c = simp (c.in-Arith.is, c.popping.ensures)
