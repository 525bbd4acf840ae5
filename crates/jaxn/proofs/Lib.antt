-- StepsLaws: a text read, and its tape and store written. LineLaws: the whole line, and that there is one
pub mod StepsLaws
pub mod LineLaws
