-- believe: what is drawn of a stretch of a trace
pub mod Picture
-- believe: whom the rows of grants and holders speak of
pub mod Letters
-- words: what a window keeps of a stretch, and its lines by that
pub mod Columns
-- believe, for `show` alone: which edges are shown, and what that leaves
pub mod Showing
-- words: a stretch that is shown, and how far it came
pub mod Stretches
-- words: what the edges of a trace do to `show`
pub mod Shown
